use Rattle.std.proofs.Common.{ℕ, ◌≡◌, ◌+◌, List, subst, arith}
use Rattle.fleet_summary.specs.declared.facts.Failure.{Failure}
use Rattle.fleet_summary.specs.Failures.{failed_by}
use Rattle.fleet_summary.specs.Histogram.{capped}
use Rattle.fleet_summary.proofs.FailuresAdded.{failed_by-fits}
use Rattle.fleet_summary.proofs.failures.FailureCounts.add_one.Goals as goal

pub returns-in-None-clause-added : goal.returns-in-None-clause-added
returns-in-None-clause-added c other =
    rw c.in-None.is
    (subst (λ (es : List (Failure × ℕ)). failed_by es other ≡ capped (failed_by es other + 0)) c.self.view_is
    (omega (arith, failed_by-fits c.self.inside.replies.entries other c.self.invariant)))
