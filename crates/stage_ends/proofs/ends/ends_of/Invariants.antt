use Rattle.std.proofs.Common.{◌≡◌, ◌++◌, ◌-◌}
use Rattle.std.specs.List.{flat_map, range_with_len}
use Rattle.stage_ends.specs.Ends.{ends, fates_at}
use Rattle.stage_ends.proofs.ends.ends_of.Given as goal

-- what was told and what is left make the whole
abbrev pub invariant-loop-place : goal.invariant-loop-place
invariant-loop-place g l =
    l.found.items ++ flat_map (fates_at l.version.graph) (range_with_len l.place (l.place-end - l.place)) ≡ ends l.version.graph
