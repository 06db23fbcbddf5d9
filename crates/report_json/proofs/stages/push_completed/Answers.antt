use Rattle.std.proofs.Common.{◌∷◌, [], codes, refl}
use Rattle.report_rows.specs.declared.standing.Standing.TheVariants.{Completed}
use Rattle.report_json.specs.Json.{count, outcome_json}
use Rattle.report_json.specs.Rows.{standing_members}
use Rattle.report_json.proofs.Pushed.{next_row, object_told, one_row}
use Rattle.report_json.proofs.stages.push_completed.Goals as goal

pub returns : goal.returns
returns c =
    object_told ((codes "moment", count c.args.moment) ∷ (codes "outcome", outcome_json c.args.outcome.now) ∷ []) refl
    c.end_object.result (standing_members (Completed c.args.outcome.now c.args.moment)) _ _ _ _ refl c.in_ok-begin_object.ensures
    (next_row _ _ _ _ _ _ (one_row _ _ _ _ c.in_ok-count.ensures) c.in_ok-push_outcome_member.ensures)
    c.end_object.ensures
