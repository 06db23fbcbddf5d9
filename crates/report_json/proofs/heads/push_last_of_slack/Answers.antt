use Rattle.report_json.proofs.Pushed.{then_rows}
use Rattle.report_json.proofs.heads.push_last_of_slack.Goals as goal

pub returns : goal.returns
returns g c = then_rows c.push_listed_of.result _ _ _ _ _ c.in_ok-push_moment_of.ensures c.push_listed_of.ensures
