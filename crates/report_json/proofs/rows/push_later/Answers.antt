use Rattle.std.proofs.Common.{◌∷◌, [], codes, refl}
use Rattle.report_rows.specs.declared.shift.Shift.TheVariants.{Later}
use Rattle.report_json.specs.Json.{count, text}
use Rattle.report_json.specs.Rows.{shift_members}
use Rattle.report_json.proofs.Pushed.{next_row, object_told, one_row}
use Rattle.report_json.proofs.rows.push_later.Goals as goal

pub returns : goal.returns
returns c =
    object_told ((codes "later", count c.args.ticks) ∷ (codes "name", text c.args.name.now) ∷ []) refl
    c.end_object.result (shift_members c.args.name.now (Later c.args.ticks)) _ _ _ _ refl c.in_ok-begin_object.ensures
    (next_row _ _ _ _ _ _ (one_row _ _ _ _ c.in_ok-count.ensures) c.in_ok-text.ensures)
    c.end_object.ensures
