use Rattle.std.proofs.Common.{arith}
use Rattle.time_sweep.specs.Sweep.{trial_at}
use Rattle.time_sweep.proofs.Trying.{tried_more, tried_same}
use Rattle.time_sweep.proofs.trials.tried_places.Goals as goal
use Rattle.time_sweep.proofs.trials.tried_places.Goals.{then-is_tried+in_ok-push, else-is_tried}

pub loop-place-preserved : goal.loop-place-preserved
loop-place-preserved g c =
    let trial = trial_at c.args.version.now.graph c.args.haste c.args.target in
    let inv = c.loop-place.invariant in
    elim c.if-is_tried.branch [
      | then-is_tried+in_ok-push w ↦
          record {
            trials = rw (w.places-is, w.in_ok-push.ensures.items) (tried_more trial c.loop-place.places.items c.loop-place.place inv.trials);
            few = rw w.places-is (omega (arith, inv.few, w.in_ok-push.ensures.len));
          }
      | else-is_tried w ↦
          record {
            trials = rw w.places-is (tried_same trial c.loop-place.places.items c.loop-place.place inv.trials (c.is_tried.ensures w.if-is_tried.false));
            few = rw w.places-is (omega (arith, inv.few));
          }
    ]
