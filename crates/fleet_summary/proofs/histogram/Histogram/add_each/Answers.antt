use Rattle.fleet_summary.proofs.HistogramAdded.{IsJoin-all_added}
use Rattle.fleet_summary.proofs.histogram.Histogram.add_each.Goals as goal

pub returns-clause-joined : goal.returns-clause-joined
returns-clause-joined c =
    IsJoin-all_added c.args.self.now c.args.numbers.now.entries c.loop-step.self c.loop-step.step-iterator c.in-None.ensures.steps.0 c.loop-step.invariant.part c.requires.sound
