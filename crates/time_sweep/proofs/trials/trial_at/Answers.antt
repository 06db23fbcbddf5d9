use Rattle.std.proofs.Common.{◌≡◌, ◌∙◌, ℕ, Some, ap, subst, sym}
use Rattle.stage_graph.specs.Plain.{PlainGraph, stage_at}
use Rattle.stage_graph.specs.Sound.{IsSoundStage}
use Rattle.time_sweep.specs.WithStage.{IsFitting}
use Rattle.time_sweep.proofs.Hurrying.{fast_fits}
use Rattle.time_sweep.proofs.trials.trial_at.Goals as goal

pub completion_with-requires-clause-fits : goal.completion_with-requires-clause-fits
completion_with-requires-clause-fits g c κs inside =
    let places = c.args.version.now.graph.places in
    let stage = c.in-Some.stage.now in
    let own : stage.place ≡ c.args.place = c.in-Some.ensures.sound.own_place in
    let here : stage_at places c.args.place ≡ Some stage =
    ap (λ (graph : PlainGraph). stage_at graph.places c.args.place) (sym c.graph.ensures.graph) ∙ sym c.in-Some.ensures.stage in
    let sound : IsSoundStage places c.args.place stage =
    subst (λ (graph : PlainGraph). IsSoundStage graph.places c.args.place stage) c.graph.ensures.graph c.in-Some.ensures.sound in
    subst (IsFitting places) (sym c.in_ok-fast.ensures)
    (fast_fits places c.args.haste stage (ap (stage_at places) own ∙ here) (subst (λ (place : ℕ). IsSoundStage places place stage) (sym own) sound))
