use Rattle.std.proofs.Common.{arith}
use Rattle.fleet_summary.proofs.HistogramAt.{total_of-fits}
use Rattle.fleet_summary.proofs.histogram.Histogram.step_of_rank.Goals as goal

pub step_of_rank-requires-clause-fits : goal.step_of_rank-requires-clause-fits
step_of_rank-requires-clause-fits c = omega (arith, total_of-fits c.self.inside.numbers.entries c.self.invariant)
