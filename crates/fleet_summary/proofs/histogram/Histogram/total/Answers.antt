use Rattle.std.proofs.Common.{arith}
use Rattle.fleet_summary.proofs.HistogramAt.{total_of-fits}
use Rattle.fleet_summary.proofs.histogram.Histogram.total.Goals as goal

pub total_of-requires : goal.total_of-requires
total_of-requires c = omega (arith, total_of-fits c.self.inside.numbers.entries c.self.invariant)
