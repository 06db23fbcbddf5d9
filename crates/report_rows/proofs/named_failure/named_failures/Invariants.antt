use Rattle.std.proofs.Common.{◌≡◌, map, take}
use Rattle.std.specs.Prelude.{filter_map}
use Rattle.report_rows.specs.Failures.{failure_row_at, named_row}
use Rattle.report_rows.proofs.named_failure.named_failures.Given as goal

-- the rows of those so far
abbrev pub invariant-loop-failure : goal.invariant-loop-failure
invariant-loop-failure g l = map named_row l.named.items ≡ filter_map (failure_row_at l.version.graph l.arisen) (take l.failure-index l.failure-items)
