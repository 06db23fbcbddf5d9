use Rattle.report_json.proofs.Pushed.{one_row, then_rows}
use Rattle.report_json.proofs.heads.push_first_of_sweep.Goals as goal

pub returns : goal.returns
returns c = then_rows c.push_haste.result _ _ _ _ _ (one_row _ _ _ _ c.in_ok-count.ensures) c.push_haste.ensures
