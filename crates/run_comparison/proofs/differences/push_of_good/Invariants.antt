use Rattle.std.proofs.Common.{◌≡◌, ◌++◌, ◌-◌}
use Rattle.std.specs.Prelude.{filter_map}
use Rattle.std.specs.List.{range_with_len}
use Rattle.run_comparison.specs.Differences.{good_at, of_good}
use Rattle.run_comparison.proofs.differences.push_of_good.Given as goal

-- what was told and what is left make the whole
abbrev pub invariant-loop-place : goal.invariant-loop-place
invariant-loop-place g l =
    l.found.items ++ filter_map (good_at l.good.graph l.bad.graph) (range_with_len l.place (l.place-end - l.place))
    ≡ l.fn.found.items ++ of_good l.good.graph l.bad.graph
