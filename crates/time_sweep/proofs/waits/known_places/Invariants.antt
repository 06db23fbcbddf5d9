use Rattle.std.proofs.Common.{◌≡◌}
use Rattle.std.specs.Prelude.{filter, is_some}
use Rattle.std.specs.List.{range_with_len}
use Rattle.time_sweep.specs.Known.{rank_in}
use Rattle.time_sweep.proofs.waits.known_places.Given as goal

abbrev pub invariant-loop-place : goal.invariant-loop-place
invariant-loop-place l = l.places.items ≡ filter (λ place. is_some (rank_in l.ranks place)) (range_with_len 0 l.place)
