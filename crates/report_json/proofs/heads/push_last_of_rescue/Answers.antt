use Rattle.std.proofs.Common.{ap}
use Rattle.report_json.specs.Json.{count, text}
use Rattle.report_json.proofs.Pushed.{last_row, member_is, named_told, next_row, one_row}
use Rattle.report_json.proofs.heads.push_last_of_rescue.Goals as goal

pub returns : goal.returns
returns g c =
    last_row c.count-2.result _ _ _ _ _ _ _ (ap count c.from.ensures)
    (next_row _ _ _ _ _ _
    (next_row _ _ _ _ _ _
    (next_row _ _ _ _ _ _
    (next_row _ _ _ _ _ _
    (next_row _ _ _ _ _ _
    (one_row _ _ _ _ c.in_ok-push_moment.ensures)
    c.in_ok-push_outcome.ensures)
    c.in_ok-text.ensures)
    (named_told _ _ _ _ _ c.in_ok-name.ensures c.in_ok-push_rows.ensures))
    (member_is _ _ _ _ _ (ap text c.as_str-name.ensures) c.in_ok-text-2.ensures))
    c.in_ok-count.ensures)
    c.count-2.ensures
