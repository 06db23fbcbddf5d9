use Rattle.report_rows.specs.Said.{path_said}
use Rattle.report_rows.proofs.Views.{of_the_view}
use Rattle.report_rows.proofs.saying_of_stage.say_path.Goals as goal

pub returns-in_ok-say_path_of-in-Some-clause-value : goal.returns-in_ok-say_path_of-in-Some-clause-value
returns-in_ok-say_path_of-in-Some-clause-value g c =
    of_the_view _ _ _ _ _ _ c.in-Some.ensures.version c.in-Some.ensures.place c.in-Some.ensures.stage path_said _ c.in_ok-say_path_of-in-Some.ensures
