use Rattle.std.proofs.Common.{◌≡◌, ◌++◌, map}
use Rattle.fleet_answer.specs.Rows.{failure_row, failure_rows}
use Rattle.fleet_answer.proofs.row_making.failure_rows.Given as goal

-- the rows so far and those that are left make all
abbrev pub invariant-loop-failure : goal.invariant-loop-failure
invariant-loop-failure l = record {
  can : (goal.iterator-loop-failure).can_next l.failure-iterator;
  finite : (goal.iterator-loop-failure).is_finite l.failure-iterator;
  whole : l.rows.items ++ map failure_row l.failure-iterator ≡ map failure_row l.failures;
}
