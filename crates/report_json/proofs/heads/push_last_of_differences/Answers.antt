use Rattle.std.proofs.Common.{ap}
use Rattle.report_json.specs.Json.{text}
use Rattle.report_json.proofs.Pushed.{member_is, next_row, one_row, then_row}
use Rattle.report_json.proofs.heads.push_last_of_differences.Goals as goal

pub returns : goal.returns
returns g c =
    then_row c.push_rows.result _ _ _ _ _ _ _
    (next_row _ _ _ _ _ _ (one_row _ _ _ _ c.in_ok-text.ensures) (member_is _ _ _ _ _ (ap text c.as_str-name.ensures) c.in_ok-text-2.ensures))
    c.in_ok-name.ensures c.push_rows.ensures
