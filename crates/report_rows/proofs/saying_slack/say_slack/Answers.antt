use Rattle.std.proofs.Common.{List, ap, ◌∙◌}
use Rattle.std.specs.Option.{option_map}
use Rattle.stage_graph.specs.Plain.{stage_at}
use Rattle.stage_slack.specs.declared.slack.Slack.{Slack}
use Rattle.report_rows.specs.Said.{slacks_listed}
use Rattle.report_rows.proofs.Views.{of_the_view}
use Rattle.report_rows.proofs.saying_slack.say_slack.Goals as goal

pub returns-in_ok-slacks-in-Some-clause-value : goal.returns-in_ok-slacks-in-Some-clause-value
returns-in_ok-slacks-in-Some-clause-value g c =
    of_the_view _ _ _ _ _ _ c.in-Some.ensures.version c.in-Some.ensures.place c.in-Some.ensures.stage (λ version place stage. slacks_listed version place c.in_ok-slacks-in-Some.slacks.items stage) _ c.say_slacks.ensures
    ∙ ap (λ (found : List Slack). option_map (slacks_listed c.args.version.now c.args.target found) (stage_at c.args.version.now.graph.places c.args.target)) c.in_ok-slacks-in-Some.ensures.slacks
