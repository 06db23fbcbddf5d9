use Rattle.std.proofs.Common.{◌≡◌, ◌∙◌, ℕ, Option, Some, ap, is_some, length, map, subst, sym}
use Rattle.std.specs.Prelude.{filter_map}
use Rattle.std.proofs.lemmas.List.{length-map}
use Rattle.stage_graph.specs.Plain.{PlainGraph, stage_at}
use Rattle.stage_graph.specs.Sound.{IsSoundStage}
use Rattle.reply_rescue.specs.declared.change.Change.{Change}
use Rattle.reply_rescue.specs.Changes.{changes_of, changes_with}
use Rattle.reply_rescue.specs.Rescues.{saves, trial_at, trials_at}
use Rattle.reply_rescue.proofs.Rescuing.{saved_each, trials_here}
use Rattle.reply_rescue.proofs.trials.rescues_at.Goals as goal

pub failure_change-failure-requires-after_bounds : goal.failure_change-failure-requires-after_bounds
failure_change-failure-requires-after_bounds g c κs inside =
    ap is_some (ap (λ (graph : PlainGraph). stage_at graph.places c.args.place) (sym c.graph.ensures.graph) ∙ sym c.in-Some.ensures.stage)

pub saved_by-requires-clause-stands : goal.saved_by-requires-clause-stands
saved_by-requires-clause-stands g c κs inside =
    let places = c.args.version.now.graph.places in
    let own : c.in-Some.stage.now.place ≡ c.args.place = c.in-Some.ensures.sound.own_place in
    ap (stage_at places) own ∙ ap (λ (graph : PlainGraph). stage_at graph.places c.args.place) (sym c.graph.ensures.graph) ∙ sym c.in-Some.ensures.stage

pub saved_by-requires-clause-sound : goal.saved_by-requires-clause-sound
saved_by-requires-clause-sound g c κs inside =
    let places = c.args.version.now.graph.places in
    let stage = c.in-Some.stage.now in
    let own : stage.place ≡ c.args.place = c.in-Some.ensures.sound.own_place in
    let sound : IsSoundStage places c.args.place stage =
    subst (λ (graph : PlainGraph). IsSoundStage graph.places c.args.place stage) c.graph.ensures.graph c.in-Some.ensures.sound in
    subst (λ (place : ℕ). IsSoundStage places place stage) (sym own) sound

pub returns : goal.returns
returns g c =
    let graph = c.args.version.now.graph in
    let sought = c.args.sought.now in
    let saves = saves graph sought.start.target sought.by in
    let place = c.args.place in
    let stage = c.in-Some.stage.now in
    let own : stage.place ≡ place = c.in-Some.ensures.sound.own_place in
    let here : stage_at graph.places place ≡ Some stage =
    ap (λ (graph : PlainGraph). stage_at graph.places place) (sym c.graph.ensures.graph) ∙ sym c.in-Some.ensures.stage in
    let changes = changes_of graph sought.value place stage in
    let same : c.in_ok-changes.changes.items ≡ changes = c.in_ok-changes.ensures ∙ ap (λ (failure : Option Change). changes_with failure stage) c.failure_change-failure.ensures in
    let trials : trials_at graph sought.value place ≡ map (trial_at place) changes = trials_here graph sought.value place stage here in
    record {
      tried = c.len.ensures ∙ c.in_ok-changes.changes.ok.0 ∙ ap length same ∙ sym (length-map changes (trial_at place)) ∙ sym (ap length trials);
      saved =
          c.in_ok-saved.ensures
          ∙ ap (filter_map (λ (change : Change). saves (trial_at stage.place change))) (c.as_slice.ensures.value ∙ same)
          ∙ ap (λ (place : ℕ). filter_map (λ (change : Change). saves (trial_at place change)) changes) own
          ∙ saved_each saves place changes
          ∙ sym (ap (filter_map saves) trials);
    }
