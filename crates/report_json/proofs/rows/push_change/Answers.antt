use Rattle.std.proofs.Common.{◌∷◌, [], codes, refl}
use Rattle.report_rows.specs.declared.row.Row.TheVariants as a_row
use Rattle.report_json.specs.Json.{text}
use Rattle.report_json.specs.Rows.{row_members, standing_json}
use Rattle.report_json.proofs.Pushed.{named_told, next_row, object_told, one_row}
use Rattle.report_json.proofs.rows.push_change.Goals as goal

pub returns : goal.returns
returns c =
    object_told
    ((codes "name", text c.args.name.now) ∷ (codes "new", standing_json c.args.new.now) ∷ (codes "old", standing_json c.args.old.now) ∷ [])
    refl c.end_object.result (row_members (a_row.Change c.args.name.now c.args.old.now c.args.new.now)) _ _ _ _ refl c.in_ok-begin_object.ensures
    (next_row _ _ _ _ _ _
    (next_row _ _ _ _ _ _
    (one_row _ _ _ _ c.in_ok-text.ensures)
    (named_told _ _ _ _ _ c.in_ok-name.ensures c.in_ok-push_standing.ensures))
    (named_told _ _ _ _ _ c.in_ok-name-2.ensures c.in_ok-push_standing-2.ensures))
    c.end_object.ensures
