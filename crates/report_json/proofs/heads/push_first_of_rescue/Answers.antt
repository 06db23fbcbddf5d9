use Rattle.std.proofs.Common.{refl}
use Rattle.report_json.proofs.Pushed.{last_row, one_row}
use Rattle.report_json.proofs.heads.push_first_of_rescue.Goals as goal

pub returns : goal.returns
returns c = last_row c.count.result _ _ _ _ _ _ _ refl (one_row _ _ _ _ c.in_ok-optional_count.ensures) c.count.ensures
