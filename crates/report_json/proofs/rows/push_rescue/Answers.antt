use Rattle.std.proofs.Common.{◌∷◌, [], codes, refl}
use Rattle.report_rows.specs.declared.row.Row.TheVariants as a_row
use Rattle.report_json.specs.Changes.{tried_members}
use Rattle.report_json.specs.Json.{count, object, text, value_json}
use Rattle.report_json.specs.Rows.{row_members}
use Rattle.report_json.proofs.Pushed.{named_told, next_row, object_told, one_row}
use Rattle.report_json.proofs.rows.push_rescue.Goals as goal

pub returns : goal.returns
returns c =
    object_told
    ((codes "change", object (tried_members c.args.change.now)) ∷ (codes "moment", count c.args.moment) ∷ (codes "name", text c.args.name.now) ∷ (codes "value", value_json c.args.value) ∷ [])
    refl c.end_object.result (row_members (a_row.Rescue c.args.name.now c.args.change.now c.args.value c.args.moment)) _ _ _ _ refl c.in_ok-begin_object.ensures
    (next_row _ _ _ _ _ _
    (next_row _ _ _ _ _ _
    (next_row _ _ _ _ _ _
    (one_row _ _ _ _ (named_told _ _ _ _ _ c.in_ok-name.ensures c.in_ok-push_tried.ensures))
    c.in_ok-count.ensures)
    c.in_ok-text.ensures)
    c.in_ok-stage_value.ensures)
    c.end_object.ensures
