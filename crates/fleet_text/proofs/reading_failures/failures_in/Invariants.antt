use Rattle.std.proofs.Common.{take}
use Rattle.fleet_summary.specs.Failures.{IsFailures}
use Rattle.fleet_text.specs.Says.{SaysFailure}
use Rattle.fleet_text.proofs.ReadLists.{AreSaid}
use Rattle.fleet_text.proofs.reading_failures.failures_in.Given as goal

abbrev pub invariant-loop-failure : goal.invariant-loop-failure
invariant-loop-failure l = record {
  sound : IsFailures l.failures;
  said : AreSaid SaysFailure (take l.failure-index l.values) l.failures;
}
