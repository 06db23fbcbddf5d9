use Rattle.std.proofs.Common.{◌∙◌, ◌++◌, ◌∷◌, [], Option, take, sym, ap, append-nil}
use Rattle.std.specs.Prelude.{filter_map}
use Rattle.std.specs.List.{cons_option}
use Rattle.time_sweep.specs.declared.trial.Trial.{Trial}
use Rattle.time_sweep.specs.Sweep.{trial_at}
use Rattle.time_sweep.proofs.Trying.{found_more}
use Rattle.time_sweep.proofs.trials.trials_among.Goals as goal
use Rattle.time_sweep.proofs.trials.trials_among.Goals.{in-Some+in_ok-push, in_default}

pub loop-place-preserved : goal.loop-place-preserved
loop-place-preserved g c =
    let trial = trial_at c.args.version.now.graph c.args.haste c.args.start.now.target in
    let places = c.args.places.now in
    let k = c.loop-place.place-index in
    let inv = c.loop-place.invariant in
    let next = found_more trial places k c.loop-place-test.true in
    record {
      found = elim c.match-branch-3.branch [
        | in-Some+in_ok-push w ↦
            rw (w.found-is, w.in_ok-push.ensures.items)
            (ap (λ found. found ++ w.in-Some.trial ∷ []) inv.found
            ∙ ap (λ (one : Option Trial). filter_map trial (take k places) ++ cons_option one []) (sym w.in-Some.is ∙ c.in_ok-trial.ensures.trial)
            ∙ sym next)
        | in_default w ↦
            rw w.found-is
            (inv.found ∙ sym (append-nil (filter_map trial (take k places)))
            ∙ ap (λ (one : Option Trial). filter_map trial (take k places) ++ cons_option one []) (sym w.in_default.is ∙ c.in_ok-trial.ensures.trial) ∙ sym next)
      ];
      room = c.in_ok-trial.ensures.room;
    }
