use Rattle.std.proofs.Common.{◌∷◌, [], codes, refl}
use Rattle.serde_json.specs.Data.{null}
use Rattle.report_rows.specs.declared.standing.Standing.TheVariants.{Pending}
use Rattle.report_json.specs.Rows.{standing_members}
use Rattle.report_json.proofs.Pushed.{next_row, object_told, one_row}
use Rattle.report_json.proofs.stages.push_pending.Goals as goal

pub returns : goal.returns
returns c =
    object_told ((codes "moment", null) ∷ (codes "outcome", null) ∷ []) refl
    c.end_object.result (standing_members Pending) _ _ _ _ refl c.in_ok-begin_object.ensures
    (next_row _ _ _ _ _ _ (one_row _ _ _ _ c.in_ok-none.ensures) c.in_ok-none-2.ensures)
    c.end_object.ensures
