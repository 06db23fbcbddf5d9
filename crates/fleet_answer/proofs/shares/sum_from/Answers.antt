use Rattle.std.proofs.Common.{arith, subst}
use Rattle.fleet_summary.specs.Histogram.{IsHistogram}
use Rattle.fleet_answer.proofs.Sums.{sum_from-cons, sum_from-fits}
use Rattle.fleet_answer.proofs.shares.sum_from.Goals as goal

pub overflow_add-sum : goal.overflow_add-sum
overflow_add-sum c =
    omega (
      arith,
      sum_from-cons c.args.first c.in-Some.step.now c.in-Some.number.now c.loop-step.step-iterator c.next.new.self c.in-Some.ensures.steps,
      sum_from-fits c.args.first c.args.histogram.now (subst IsHistogram c.by_step-step-items.ensures.numbers c.by_step-step-items.ensures.sound),
      c.loop-step.invariant.sum,
      c.number_from-sum.ensures,
    )

pub loop-step-preserved : goal.loop-step-preserved
loop-step-preserved c = record {
  can = tt;
  finite = tt;
  sum =
      omega (
        arith,
        sum_from-cons c.args.first c.in-Some.step.now c.in-Some.number.now c.loop-step.step-iterator c.next.new.self c.in-Some.ensures.steps,
        c.loop-step.invariant.sum,
        c.number_from-sum.ensures,
      );
}
