use Rattle.std.proofs.Common.{◌≡◌, ◌++◌, ◌-◌}
use Rattle.std.specs.Prelude.{filter_map}
use Rattle.std.specs.List.{range_with_len}
use Rattle.run_comparison.specs.Differences.{bad_at, of_bad}
use Rattle.place_flags.specs.Flags.{is_flagged}
use Rattle.run_comparison.proofs.differences.push_of_bad.Given as goal

-- what was told and what is left make the whole
abbrev pub invariant-loop-place : goal.invariant-loop-place
invariant-loop-place g l =
    l.found.items ++ filter_map (bad_at l.good.graph (is_flagged l.on_good_path) l.bad.graph (is_flagged l.on_bad_path)) (range_with_len l.place (l.place-end - l.place))
    ≡ l.fn.found.items ++ of_bad l.good.graph (is_flagged l.on_good_path) l.bad.graph (is_flagged l.on_bad_path)
