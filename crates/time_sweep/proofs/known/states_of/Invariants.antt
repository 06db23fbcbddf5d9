use Rattle.std.proofs.Common.{◌≡◌}
use Rattle.std.specs.Prelude.{map}
use Rattle.std.specs.List.{range_with_len}
use Rattle.version_store.specs.Queries.{state_of}
use Rattle.time_sweep.proofs.known.states_of.Given as goal

abbrev pub invariant-loop-place : goal.invariant-loop-place
invariant-loop-place g l = l.states.items ≡ map (state_of l.version.graph) (range_with_len 0 l.place)
