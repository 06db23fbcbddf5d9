use Rattle.std.proofs.Common.{◌≡◌, ◌≤◌, length}
use Rattle.std.specs.Prelude.{filter_map}
use Rattle.std.specs.List.{range_with_len}
use Rattle.time_sweep.specs.Sweep.{trial_at}
use Rattle.time_sweep.proofs.trials.tried_places.Given as goal

abbrev pub invariant-loop-place : goal.invariant-loop-place
invariant-loop-place g l = record {
  trials : filter_map (trial_at l.version.graph l.haste l.target) l.places.items ≡ filter_map (trial_at l.version.graph l.haste l.target) (range_with_len 0 l.place);
  few : length l.places.items ≤ l.place;
}
