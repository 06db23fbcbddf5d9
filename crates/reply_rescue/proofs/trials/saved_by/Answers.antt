use Rattle.std.proofs.Common.{◌∙◌, ◌++◌, ◌∷◌, [], Option, List, take, take_all, sym, ap, append-nil}
use Rattle.std.specs.Prelude.{filter_map}
use Rattle.std.specs.List.{cons_option}
use Rattle.reply_rescue.specs.declared.change.Change.{Change}
use Rattle.reply_rescue.specs.declared.change.Change.TheVariants.{NoTime}
use Rattle.reply_rescue.specs.declared.rescue.Rescue.{Rescue}
use Rattle.reply_rescue.specs.Rescues.{saves, trial_at}
use Rattle.reply_rescue.proofs.Gathering.{given_more}
use Rattle.reply_rescue.proofs.trials.saved_by.Goals as goal
use Rattle.reply_rescue.proofs.trials.saved_by.Goals.{in-Some+in_ok-push, in_default}

pub loop-change-preserved : goal.loop-change-preserved
loop-change-preserved g c =
    let sought = c.args.sought.now in
    let saved = λ (change : Change). saves c.args.version.now.graph sought.start.target sought.by (trial_at c.args.stage.now.place change) in
    let changes = c.args.changes.now in
    let k = c.loop-change.change-index in
    let inv = c.loop-change.invariant in
    let next = given_more saved changes k NoTime c.loop-change-test.true in
    record {
      saved = elim c.match-branch-3.branch [
        | in-Some+in_ok-push w ↦
            rw (w.saved-is, w.in_ok-push.ensures.items)
            (ap (λ (found : List Rescue). found ++ w.in-Some.rescue ∷ []) inv.saved
            ∙ ap (λ (one : Option Rescue). filter_map saved (take k changes) ++ cons_option one []) (sym w.in-Some.is ∙ c.in_ok-rescue.ensures.saves)
            ∙ sym next)
        | in_default w ↦
            rw w.saved-is
            (inv.saved ∙ sym (append-nil (filter_map saved (take k changes)))
            ∙ ap (λ (one : Option Rescue). filter_map saved (take k changes) ++ cons_option one []) (sym w.in_default.is ∙ c.in_ok-rescue.ensures.saves) ∙ sym next)
      ];
      room = c.in_ok-rescue.ensures.room;
    }

pub returns : goal.returns
returns g c =
    let sought = c.args.sought.now in
    c.loop-change.invariant.saved
    ∙ ap (filter_map (λ (change : Change). saves c.args.version.now.graph sought.start.target sought.by (trial_at c.args.stage.now.place change)))
    (take_all c.loop-change.change-index c.args.changes.now c.loop-change-test.false)
