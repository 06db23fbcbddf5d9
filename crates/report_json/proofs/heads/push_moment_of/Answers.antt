use Rattle.std.proofs.Common.{refl}
use Rattle.report_json.proofs.Pushed.{last_row, one_row}
use Rattle.report_json.proofs.heads.push_moment_of.Goals as goal

pub returns : goal.returns
returns c = last_row c.text.result _ _ _ _ _ _ _ refl (one_row _ _ _ _ c.in_ok-optional_count.ensures) c.text.ensures
