use Rattle.report_json.proofs.Pushed.{one_row, then_rows}
use Rattle.report_json.proofs.heads.push_listed.Goals as goal

pub returns : goal.returns
returns g c = then_rows c.push_titled.result _ _ _ _ _ (one_row _ _ _ _ c.in_ok-text.ensures) c.push_titled.ensures
