use Rattle.std.proofs.Common.{◌∷◌, [], codes, refl}
use Rattle.report_rows.specs.declared.row.Row.TheVariants as a_row
use Rattle.report_json.specs.Json.{count, optional, text}
use Rattle.report_json.specs.Rows.{row_members}
use Rattle.report_json.proofs.Pushed.{next_row, object_told, one_row}
use Rattle.report_json.proofs.rows.push_times.Goals as goal

pub returns : goal.returns
returns c =
    object_told
    ((codes "name", text c.args.name.now) ∷ (codes "queued", count c.args.queued) ∷ (codes "runs", count c.args.runs) ∷ (codes "start", optional count c.args.start) ∷ [])
    refl c.end_object.result (row_members (a_row.Times c.args.name.now c.args.start c.args.queued c.args.runs)) _ _ _ _ refl c.in_ok-begin_object.ensures
    (next_row _ _ _ _ _ _
    (next_row _ _ _ _ _ _
    (next_row _ _ _ _ _ _
    (one_row _ _ _ _ c.in_ok-text.ensures)
    c.in_ok-count.ensures)
    c.in_ok-count-2.ensures)
    c.in_ok-optional_count.ensures)
    c.end_object.ensures
