use Rattle.std.proofs.Common.{◌∷◌, [], codes, refl}
use Rattle.report_rows.specs.declared.row.Row.TheVariants as a_row
use Rattle.report_json.specs.Json.{count, object, optional, text}
use Rattle.report_json.specs.Rows.{fate_members, row_members}
use Rattle.report_json.proofs.Pushed.{named_told, next_row, object_told, one_row}
use Rattle.report_json.proofs.rows.push_end.Goals as goal

pub returns : goal.returns
returns c =
    object_told
    ((codes "delay", optional count c.args.delay) ∷ (codes "do", text c.args.kind.now) ∷ (codes "fate", object (fate_members c.args.fate))
    ∷ (codes "moment", count c.args.moment) ∷ (codes "name", text c.args.name.now) ∷ [])
    refl c.end_object.result (row_members (a_row.End c.args.name.now c.args.kind.now c.args.delay c.args.moment c.args.fate)) _ _ _ _ refl c.in_ok-begin_object.ensures
    (next_row _ _ _ _ _ _
    (next_row _ _ _ _ _ _
    (next_row _ _ _ _ _ _
    (next_row _ _ _ _ _ _
    (one_row _ _ _ _ c.in_ok-optional_count.ensures)
    c.in_ok-text.ensures)
    (named_told _ _ _ _ _ c.in_ok-name.ensures c.in_ok-push_fate.ensures))
    c.in_ok-count.ensures)
    c.in_ok-text-2.ensures)
    c.end_object.ensures
