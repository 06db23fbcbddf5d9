use Rattle.std.proofs.Common.{ap, refl}
use Rattle.report_json.specs.Json.{count}
use Rattle.report_json.specs.Versions.{at_version_members}
use Rattle.report_json.proofs.Pushed.{both_rows, member_is, next_row, one_row, report_told}
use Rattle.report_json.proofs.line_answers.push_at_version.Goals as goal

pub returns : goal.returns
returns c =
    let rows = at_version_members c.args.reply.now c.args.version in
    report_told c.end_object.result c.args.number rows rows _ _ _ _ refl refl (λ line. refl) (λ line. refl) c.in_ok-begin_object.ensures
    (both_rows _ _ _ _ _ c.in_ok-push_number.ensures
    (next_row _ _ _ _ _ _
    (one_row _ _ _ _ c.in_ok-text.ensures)
    (member_is _ _ _ _ _ (ap count c.from.ensures) c.in_ok-count.ensures)))
    c.end_object.ensures
