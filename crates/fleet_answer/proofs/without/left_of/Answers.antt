use Rattle.fleet_answer.proofs.Leaving.{IsPartLeft-all, IsPartLeft-counted, IsPartLeft-more}
use Rattle.std.proofs.Common.{◌-◌, ◌∙◌, ap, subst}
use Rattle.fleet_summary.specs.Histogram.{IsHistogram}
use Rattle.fleet_answer.proofs.without.left_of.Goals as goal

pub add-requires : goal.add-requires
add-requires c =
    IsPartLeft-counted c.args.all.now c.args.taken.now c.loop-step.left c.loop-step.step-iterator c.next.new.self c.in-Some.step.now c.in-Some.number.now c.in-Some.ensures.steps c.loop-step.invariant.part

pub loop-step-preserved : goal.loop-step-preserved
loop-step-preserved c = record {
  can = tt;
  finite = tt;
  part =
      IsPartLeft-more c.args.all.now c.args.taken.now c.loop-step.left c.add.new.self c.loop-step.step-iterator c.next.new.self c.in-Some.step.now c.in-Some.number.now c.saturating_sub.result
      c.in-Some.ensures.steps (c.saturating_sub.ensures ∙ ap (λ n. c.in-Some.number.now - n) c.at.ensures) (subst IsHistogram c.by_step-step-items.ensures.numbers c.by_step-step-items.ensures.sound) c.loop-step.invariant.part c.in_ok-add.ensures.added c.in_ok-add.ensures.sound;
}

pub returns-clause-left : goal.returns-clause-left
returns-clause-left c =
    IsPartLeft-all c.args.all.now c.args.taken.now c.loop-step.left c.loop-step.step-iterator c.in-None.ensures.steps.0 c.loop-step.invariant.part
    (subst IsHistogram c.by_step-step-items.ensures.numbers c.by_step-step-items.ensures.sound)
