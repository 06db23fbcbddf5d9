use Rattle.std.proofs.Common.{arith}
use Rattle.timeline_svg.proofs.First.{first_bound}
use Rattle.timeline_svg.proofs.span.first_tick.Goals as goal

pub loop-row-init : goal.loop-row-init
loop-row-init c = record { fits = omega arith; known = omega (arith, first_bound c.args.rows.now) }
