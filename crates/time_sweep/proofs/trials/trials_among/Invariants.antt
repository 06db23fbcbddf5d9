use Rattle.std.proofs.Common.{◌≡◌, length, take}
use Rattle.std.specs.Prelude.{filter_map}
use Rattle.time_sweep.specs.Sweep.{trial_at}
use Rattle.time_sweep.proofs.trials.trials_among.Given as goal

abbrev pub invariant-loop-place : goal.invariant-loop-place
invariant-loop-place g l = record {
  found : l.found.items ≡ filter_map (trial_at l.version.graph l.haste l.start.target) (take l.place-index l.places);
  room : length l.changes.at.items ≡ length l.start.before.items;
}
