use Rattle.fleet_summary.proofs.FailuresAdded.{IsFailuresPart-all}
use Rattle.fleet_summary.proofs.failures.FailureCounts.add_each.Goals as goal

pub returns-clause-added : goal.returns-clause-added
returns-clause-added c =
    IsFailuresPart-all c.args.self.now c.args.failures.now.entries c.loop-failure.self c.loop-failure.failure-iterator c.in-None.ensures.steps.0 c.loop-failure.invariant.part c.requires.failures
