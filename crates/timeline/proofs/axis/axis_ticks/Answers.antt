use Rattle.timeline.proofs.Decades.{round_is_positive}
use Rattle.timeline.proofs.Multiples.{axis_of, few_named, if_ok_so}
use Rattle.timeline.proofs.axis.axis_ticks.Goals as goal

pub multiples-requires-clause-step : goal.multiples-requires-clause-step
multiples-requires-clause-step c = round_is_positive _ c.round_step-step.ensures.round

pub returns-clause-axis : goal.returns-clause-axis
returns-clause-axis c =
    if_ok_so _ _ _
    (λ ticks. axis_of c.args.first c.args.last c.args.most c.round_step-step.result ticks.items
    c.round_step-step.ensures.round c.round_step-step.ensures.few c.round_step-step.ensures.least)
    c.multiples.ensures

pub returns-clause-few : goal.returns-clause-few
returns-clause-few c =
    if_ok_so _ _ _
    (λ ticks. few_named c.args.first c.args.last c.args.most c.round_step-step.result ticks.items
    (round_is_positive _ c.round_step-step.ensures.round) c.round_step-step.ensures.few)
    c.multiples.ensures
