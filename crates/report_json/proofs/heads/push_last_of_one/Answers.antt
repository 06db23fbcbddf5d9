use Rattle.std.proofs.Common.{ap}
use Rattle.report_json.specs.Json.{count, text}
use Rattle.report_json.specs.Rows.{names_json}
use Rattle.report_json.proofs.Pushed.{last_row, member_is, next_row, one_row}
use Rattle.report_json.proofs.heads.push_last_of_one.Goals as goal

pub returns : goal.returns
returns c =
    last_row c.count-2.result _ _ _ _ _ _ _ (ap count c.from-2.ensures)
    (next_row _ _ _ _ _ _
    (next_row _ _ _ _ _ _
    (next_row _ _ _ _ _ _
    (next_row _ _ _ _ _ _
    (next_row _ _ _ _ _ _
    (next_row _ _ _ _ _ _
    (one_row _ _ _ _ c.in_ok-push_moment.ensures)
    (member_is _ _ _ _ _ (ap text c.text-op.ensures) c.in_ok-text.ensures))
    c.in_ok-push_outcome.ensures)
    (member_is _ _ _ _ _ (ap count c.from.ensures) c.in_ok-count.ensures))
    c.in_ok-text-2.ensures)
    (member_is _ _ _ _ _ (ap names_json c.as_slice.ensures) c.in_ok-push_names_member.ensures))
    (member_is _ _ _ _ _ (ap text c.as_str-name.ensures) c.in_ok-text-3.ensures))
    c.count-2.ensures
