use Rattle.std.proofs.Common.{ap, refl}
use Rattle.report_json.specs.Rows.{names_json}
use Rattle.report_json.proofs.Pushed.{last_row, member_is, next_row, one_row}
use Rattle.report_json.proofs.heads.push_first_of_one.Goals as goal

pub returns : goal.returns
returns c =
    last_row c.push_join_member.result _ _ _ _ _ _ _ refl
    (next_row _ _ _ _ _ _
    (one_row _ _ _ _ (member_is _ _ _ _ _ (ap names_json c.as_slice.ensures) c.in_ok-push_names_member.ensures))
    (member_is _ _ _ _ _ (ap names_json c.as_slice-2.ensures) c.in_ok-push_names_member-2.ensures))
    c.push_join_member.ensures
