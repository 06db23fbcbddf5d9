use Rattle.std.proofs.Common.{◌≡◌}
use Rattle.std.specs.Prelude.{map}
use Rattle.std.specs.List.{range_with_len}
use Rattle.time_sweep.proofs.Knowing.{live_rank}
use Rattle.time_sweep.proofs.ancestors.all_ranks.Given as goal

abbrev pub invariant-loop-place : goal.invariant-loop-place
invariant-loop-place g l = l.ranks.items ≡ map (live_rank l.version.graph.places) (range_with_len 0 l.place)
