use Rattle.std.proofs.Common.{◌∷◌, [], ap, codes, refl}
use Rattle.report_rows.specs.declared.row.Row.TheVariants as a_row
use Rattle.report_json.specs.Json.{count, optional, text}
use Rattle.report_json.specs.Rows.{exception_json, moment_in, names_json, outcome_in, row_members}
use Rattle.report_json.proofs.Pushed.{member_is, next_row, object_told, one_row}
use Rattle.report_json.proofs.rows.push_failed.Goals as goal

pub returns : goal.returns
returns c =
    let standing = c.args.standing.now in
    object_told
    ((codes "exception", optional exception_json (outcome_in standing)) ∷ (codes "handled", names_json c.args.handled.now)
    ∷ (codes "moment", optional count (moment_in standing)) ∷ (codes "name", text c.args.name.now) ∷ (codes "reaches", names_json c.args.reaches.now) ∷ [])
    refl c.end_object.result (row_members (a_row.Failure c.args.name.now standing c.args.reaches.now c.args.handled.now)) _ _ _ _ refl c.in_ok-begin_object.ensures
    (next_row _ _ _ _ _ _
    (next_row _ _ _ _ _ _
    (next_row _ _ _ _ _ _
    (next_row _ _ _ _ _ _
    (one_row _ _ _ _ c.in_ok-push_exception.ensures)
    (member_is _ _ _ _ _ (ap names_json c.as_slice.ensures) c.in_ok-push_names_member.ensures))
    c.in_ok-push_moment.ensures)
    c.in_ok-text.ensures)
    (member_is _ _ _ _ _ (ap names_json c.as_slice-2.ensures) c.in_ok-push_names_member-2.ensures))
    c.end_object.ensures
