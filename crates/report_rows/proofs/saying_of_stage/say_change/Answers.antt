use Rattle.report_rows.specs.Said.{change_said}
use Rattle.report_rows.proofs.Views.{of_the_view}
use Rattle.report_rows.proofs.saying_of_stage.say_change.Goals as goal

pub returns-in-Some-clause-value : goal.returns-in-Some-clause-value
returns-in-Some-clause-value g c =
    of_the_view _ _ _ _ _ _ c.in-Some.ensures.version c.in-Some.ensures.place c.in-Some.ensures.stage change_said _ c.say_change_of.ensures
