use Rattle.std.proofs.Common.{arith}
use Rattle.trace_relations.proofs.Telling.{some_nanoseconds}
use Rattle.trace_relations.proofs.ticks.tick_of.Goals as goal

pub nonzero_div-ticks : goal.nonzero_div-ticks
nonzero_div-ticks c = omega (arith, some_nanoseconds c.args.unit)
