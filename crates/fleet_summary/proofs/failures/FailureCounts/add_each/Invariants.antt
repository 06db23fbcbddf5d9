use Rattle.fleet_summary.proofs.FailuresAdded.{IsFailuresPart}
use Rattle.fleet_summary.proofs.failures.FailureCounts.add_each.Given as goal

abbrev pub invariant-loop-failure : goal.invariant-loop-failure
invariant-loop-failure l = record {
  can : (goal.iterator-loop-failure).can_next l.failure-iterator;
  finite : (goal.iterator-loop-failure).is_finite l.failure-iterator;
  part : IsFailuresPart l.initial.self l.failures.entries l.self l.failure-iterator;
}
