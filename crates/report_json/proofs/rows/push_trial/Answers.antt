use Rattle.std.proofs.Common.{◌∷◌, [], codes, refl}
use Rattle.report_rows.specs.declared.row.Row.TheVariants as a_row
use Rattle.report_json.specs.Json.{count, outcome_json, text}
use Rattle.report_json.specs.Rows.{row_members}
use Rattle.report_json.proofs.Pushed.{next_row, object_told, one_row}
use Rattle.report_json.proofs.rows.push_trial.Goals as goal

pub returns : goal.returns
returns c =
    object_told
    ((codes "moment", count c.args.moment) ∷ (codes "outcome", outcome_json c.args.outcome.now) ∷ (codes "sooner", count c.args.sooner) ∷ (codes "stage", text c.args.name.now) ∷ [])
    refl c.end_object.result (row_members (a_row.Trial c.args.name.now c.args.sooner c.args.outcome.now c.args.moment)) _ _ _ _ refl c.in_ok-begin_object.ensures
    (next_row _ _ _ _ _ _
    (next_row _ _ _ _ _ _
    (next_row _ _ _ _ _ _
    (one_row _ _ _ _ c.in_ok-count.ensures)
    c.in_ok-push_outcome_member.ensures)
    c.in_ok-count-2.ensures)
    c.in_ok-text.ensures)
    c.end_object.ensures
