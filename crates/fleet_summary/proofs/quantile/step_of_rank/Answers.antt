use Rattle.std.proofs.Common.{◌+◌, subst, sym, arith}
use Rattle.fleet_summary.proofs.Ranks.{HasReached, HasReached-counted, HasReached-more, HasReached-there}
use Rattle.fleet_summary.proofs.quantile.step_of_rank.Goals as goal

pub returns-then-rank-reached-clause-step : goal.returns-then-rank-reached-clause-step
returns-then-rank-reached-clause-step c =
    HasReached-there c.args.numbers.now.entries c.loop-step.step-iterator c.next.new.self c.loop-step.reached c.args.rank c.in-Some.step.now c.in-Some.number.now
    c.in-Some.ensures.steps c.loop-step.invariant.has (omega (arith, c.if-rank-reached.true, c.from-reached.ensures)) c.requires.sound.ordered

pub returns-then-rank-reached-clause-counted : goal.returns-then-rank-reached-clause-counted
returns-then-rank-reached-clause-counted c =
    HasReached-counted c.args.numbers.now.entries c.loop-step.step-iterator c.next.new.self c.loop-step.reached c.args.rank c.in-Some.step.now c.in-Some.number.now 3776
    c.in-Some.ensures.steps c.loop-step.invariant.has c.requires.sound.steps

pub loop-step-preserved : goal.loop-step-preserved
loop-step-preserved c = record {
  can = tt;
  finite = tt;
  has =
      subst (λ n. HasReached c.args.numbers.now.entries c.next.new.self (c.loop-step.reached + n) c.args.rank) (sym c.from-reached.ensures)
      (HasReached-more c.args.numbers.now.entries c.loop-step.step-iterator c.next.new.self c.loop-step.reached c.args.rank c.in-Some.step.now c.in-Some.number.now
      c.in-Some.ensures.steps c.loop-step.invariant.has (omega (arith, c.if-rank-reached.false, c.from-reached.ensures)));
}
