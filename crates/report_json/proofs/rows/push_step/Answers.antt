use Rattle.std.proofs.Common.{◌∷◌, [], codes, refl}
use Rattle.report_rows.specs.declared.row.Row.TheVariants as a_row
use Rattle.report_json.specs.Json.{count, object, optional, text}
use Rattle.report_json.specs.Rows.{because_members, row_members}
use Rattle.report_json.proofs.Pushed.{named_told, next_row, object_told, one_row}
use Rattle.report_json.proofs.rows.push_step.Goals as goal

pub returns : goal.returns
returns c =
    object_told
    ((codes "cause", object (because_members c.args.because.now)) ∷ (codes "moment", optional count c.args.moment) ∷ (codes "name", text c.args.name.now)
    ∷ (codes "queued", count c.args.queued) ∷ (codes "ran", count c.args.ran) ∷ [])
    refl c.end_object.result (row_members (a_row.Step c.args.name.now c.args.moment c.args.queued c.args.ran c.args.because.now)) _ _ _ _ refl c.in_ok-begin_object.ensures
    (next_row _ _ _ _ _ _
    (next_row _ _ _ _ _ _
    (next_row _ _ _ _ _ _
    (next_row _ _ _ _ _ _
    (one_row _ _ _ _ (named_told _ _ _ _ _ c.in_ok-name.ensures c.in_ok-push_because.ensures))
    c.in_ok-optional_count.ensures)
    c.in_ok-text.ensures)
    c.in_ok-count.ensures)
    c.in_ok-count-2.ensures)
    c.end_object.ensures
