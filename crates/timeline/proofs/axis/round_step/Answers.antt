use Rattle.std.proofs.Common.{arith}
use Rattle.timeline.proofs.Decades.{first_reached, least_found, next_reached, next_within, reached_is_positive, round_found}
use Rattle.timeline.proofs.axis.round_step.Goals as goal

pub loop-step-init : goal.loop-step-init
loop-step-init c = (omega arith, first_reached c.args.span c.args.most)

pub step_of_decade-requires-clause-positive : goal.step_of_decade-requires-clause-positive
step_of_decade-requires-clause-positive c = reached_is_positive _ _ _ c.loop-step.invariant.1

pub returns-in-Some-clause-round : goal.returns-in-Some-clause-round
returns-in-Some-clause-round c = round_found _ _ _ _ c.loop-step.invariant.1 c.in-Some.ensures

pub returns-in-Some-clause-least : goal.returns-in-Some-clause-least
returns-in-Some-clause-least c = least_found _ _ _ _ c.loop-step.invariant.1 c.in-Some.ensures

pub loop-step-smaller : goal.loop-step-smaller
loop-step-smaller c =
    let within = next_within c.args.span c.args.most c.loop-step.power c.requires.most c.in-None.ensures in
    let some = reached_is_positive _ _ _ c.loop-step.invariant.1 in
    omega (arith, within, some)

pub loop-step-preserved : goal.loop-step-preserved
loop-step-preserved c =
    let within = next_within c.args.span c.args.most c.loop-step.power c.requires.most c.in-None.ensures in
    (omega (arith, within), next_reached _ _ _ c.loop-step.invariant.1 c.in-None.ensures)
