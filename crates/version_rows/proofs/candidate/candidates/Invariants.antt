use Rattle.std.proofs.Common.{◌≡◌, ◌++◌, ◌-◌}
use Rattle.std.specs.Prelude.{filter_map}
use Rattle.std.specs.List.{range_with_len}
use Rattle.version_rows.specs.Candidates.{candidate_at, candidates}
use Rattle.version_rows.proofs.candidate.candidates.Given as goal

-- what was found and what is left make the whole
abbrev pub invariant-loop-place : goal.invariant-loop-place
invariant-loop-place g l =
    l.found.items ++ filter_map (candidate_at l.version.graph l.selection l.path) (range_with_len l.place (l.place-end - l.place))
    ≡ candidates l.version.graph l.selection l.path
