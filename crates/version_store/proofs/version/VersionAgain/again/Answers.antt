use Rattle.std.proofs.Common.{◌∙◌, Option, ap, sym}
use Rattle.stage_graph.specs.Plain.{PlainGraph}
use Rattle.version_store.specs.Plain.{Origin}
use Rattle.version_store.specs.Queries.{touched_in}
use Rattle.version_store.proofs.Keeping.{keeps_same}
use Rattle.version_store.proofs.version.VersionAgain.again.Goals as goal

pub invariant_of-result : goal.invariant_of-result
invariant_of-result g c = (
  c.in_ok-again-3.ensures ∙ c.self.invariant.0
      ∙ ap (λ (origin : Option Origin). touched_in origin c.self.inside.graph) (sym c.in_ok-again-2.ensures)
      ∙ ap (λ (graph : PlainGraph). touched_in c.in_ok-again-2.field-0 graph) (sym c.in_ok-again.ensures),
  keeps_same c.self.inside.origin c.in_ok-again-2.field-0 c.self.inside.graph c.in_ok-again.field-0 c.in_ok-again-2.ensures c.in_ok-again.ensures c.self.invariant.1,
)
