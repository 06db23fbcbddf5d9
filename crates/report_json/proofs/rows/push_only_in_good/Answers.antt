use Rattle.std.proofs.Common.{◌∷◌, [], codes, refl}
use Rattle.serde_json.specs.Data.{null}
use Rattle.report_rows.specs.declared.row.Row.TheVariants as a_row
use Rattle.report_json.specs.Json.{text}
use Rattle.report_json.specs.Rows.{in_run_json, row_members}
use Rattle.report_json.proofs.Pushed.{named_told, next_row, object_told, one_row}
use Rattle.report_json.proofs.rows.push_only_in_good.Goals as goal

pub returns : goal.returns
returns c =
    object_told
    ((codes "bad", null) ∷ (codes "good", in_run_json c.args.good.now) ∷ (codes "name", text c.args.name.now) ∷ [])
    refl c.end_object.result (row_members (a_row.OnlyInGood c.args.name.now c.args.good.now)) _ _ _ _ refl c.in_ok-begin_object.ensures
    (next_row _ _ _ _ _ _
    (next_row _ _ _ _ _ _
    (one_row _ _ _ _ c.in_ok-none.ensures)
    (named_told _ _ _ _ _ c.in_ok-name.ensures c.in_ok-push_in_run.ensures))
    c.in_ok-text.ensures)
    c.end_object.ensures
