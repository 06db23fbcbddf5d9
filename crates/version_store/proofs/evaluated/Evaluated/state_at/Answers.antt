use Rattle.std.proofs.Common.{ap, sym, ◌∙◌}
use Rattle.stage_graph.specs.Plain.{PlainGraph}
use Rattle.stage_ops.specs.States.{pending}
use Rattle.version_store.specs.Queries.{state_of}
use Rattle.version_store.proofs.Telling.{told_past}
use Rattle.version_store.proofs.evaluated.Evaluated.state_at.Goals as goal

pub returns-in-None : goal.returns-in-None
returns-in-None g c =
    told_past c.self.inside.states c.args.place pending (sym c.in-None.ensures)
    ∙ c.self.invariant.evaluated.each c.args.place
    ∙ ap (λ (graph : PlainGraph). state_of graph c.args.place) c.self.view_is
