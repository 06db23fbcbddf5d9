use Rattle.std.proofs.Common.{ap, sym, ◌∙◌}
use Rattle.std.specs.Prelude.{option_copied}
use Rattle.stage_graph.specs.Plain.{PlainGraph, stage_at}
use Rattle.stage_ops.specs.States.{pending}
use Rattle.version_store.specs.Queries.{state_of}
use Rattle.version_store.proofs.Telling.{empty_past, told_at}
use Rattle.version_store.proofs.evaluated.Evaluated.kept_at.Goals as goal

pub returns-in-Some : goal.returns-in-Some
returns-in-Some g c =
    sym (told_at c.self.inside.states c.args.place pending _ (sym c.kept.ensures ∙ ap option_copied c.in-Some.is))
    ∙ c.self.invariant.evaluated.each c.args.place
    ∙ ap (λ (graph : PlainGraph). state_of graph c.args.place) c.self.view_is

pub returns-in-None : goal.returns-in-None
returns-in-None g c =
    ap (λ (graph : PlainGraph). stage_at graph.places c.args.place) (sym c.self.view_is)
    ∙ empty_past c.self.inside.states c.self.inside.graph.places c.args.place c.self.invariant.evaluated.count (sym c.kept.ensures ∙ ap option_copied c.in-None.is)
