use Rattle.std.proofs.Common.{◌≤◌, arith, subst}
use Rattle.std.proofs.Math.Nat.{mul-le-mul_right}
use Rattle.fleet_summary.specs.Histogram.{IsHistogram}
use Rattle.fleet_summary.proofs.HistogramAt.{total_of-fits}
use Rattle.fleet_answer.proofs.shares.slow_rank.Goals as goal

pub overflow_mul-others : goal.overflow_mul-others
overflow_mul-others c =
    let sound : IsHistogram c.args.times.now = subst IsHistogram c.by_step.ensures.numbers c.by_step.ensures.sound in
    let part : c.from.result ≤ 100 = omega arith in
    omega (arith, c.total.ensures, total_of-fits c.args.times.now sound, mul-le-mul_right c.total.result part)

pub overflow_add-result : goal.overflow_add-result
overflow_add-result c =
    let sound : IsHistogram c.args.times.now = subst IsHistogram c.by_step.ensures.numbers c.by_step.ensures.sound in
    let part : c.from.result ≤ 100 = omega arith in
    omega (arith, c.total.ensures, total_of-fits c.args.times.now sound, mul-le-mul_right c.total.result part)
