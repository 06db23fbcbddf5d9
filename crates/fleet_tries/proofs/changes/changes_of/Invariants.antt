use Rattle.std.proofs.Common.{◌≡◌}
use Rattle.std.specs.Prelude.{filter_map}
use Rattle.std.specs.List.{range_with_len}
use Rattle.fleet_tries.specs.Changes.{change_at}
use Rattle.fleet_tries.proofs.changes.changes_of.Given as goal

-- those of the places so far
abbrev pub invariant-loop-place : goal.invariant-loop-place
invariant-loop-place g l = l.changes.items ≡ filter_map (change_at l.version.graph l.grouping l.change) (range_with_len 0 l.place)
