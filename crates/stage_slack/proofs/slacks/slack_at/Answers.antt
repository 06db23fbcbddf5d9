use Rattle.std.proofs.Common.{◌≡◌, ◌∙◌, ℕ, Some, ap, subst, sym}
use Rattle.std.specs.Prelude.{not}
use Rattle.stage_graph.specs.Plain.{PlainGraph, stage_at}
use Rattle.stage_graph.specs.Sound.{IsSoundStage}
use Rattle.stage_slack.proofs.Lengthening.{slack_found}
use Rattle.stage_slack.proofs.slacks.slack_at.Goals as goal

pub most_ticks-requires-clause-stands : goal.most_ticks-requires-clause-stands
most_ticks-requires-clause-stands g c κs inside =
    let places = c.args.version.now.graph.places in
    let stage = c.in-Some.stage.now in
    let own : stage.place ≡ c.args.place = c.in-Some.ensures.sound.own_place in
    ap (stage_at places) own ∙ ap (λ (graph : PlainGraph). stage_at graph.places c.args.place) (sym c.graph.ensures.graph) ∙ sym c.in-Some.ensures.stage

pub most_ticks-requires-clause-sound : goal.most_ticks-requires-clause-sound
most_ticks-requires-clause-sound g c κs inside =
    let places = c.args.version.now.graph.places in
    let stage = c.in-Some.stage.now in
    let own : stage.place ≡ c.args.place = c.in-Some.ensures.sound.own_place in
    let sound : IsSoundStage places c.args.place stage =
    subst (λ (graph : PlainGraph). IsSoundStage graph.places c.args.place stage) c.graph.ensures.graph c.in-Some.ensures.sound in
    subst (λ (place : ℕ). IsSoundStage places place stage) (sym own) sound

pub returns : goal.returns
returns g c =
    let graph = c.args.version.now.graph in
    let stage = c.in-Some.stage.now in
    let here : stage_at graph.places c.args.place ≡ Some stage =
    ap (λ (graph : PlainGraph). stage_at graph.places c.args.place) (sym c.graph.ensures.graph) ∙ sym c.in-Some.ensures.stage in
    slack_found graph c.args.start.now.target c.args.place stage here (c.is_none.ensures ∙ ap not c.if-is_none.false) c.in-Some-action_start.began (sym c.action_start.ensures ∙ c.in-Some-action_start.is)
    c.in_ok-ticks.ticks c.in_ok-ticks.ensures.ticks
