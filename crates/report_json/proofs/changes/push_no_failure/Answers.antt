use Rattle.std.proofs.Common.{◌∷◌, [], codes, refl}
use Rattle.report_rows.specs.declared.tried_change.TriedChange.TheVariants.{NoFailure}
use Rattle.report_json.specs.Changes.{tried_members}
use Rattle.report_json.specs.Json.{text, value_json}
use Rattle.report_json.proofs.Pushed.{next_row, object_told, one_row}
use Rattle.report_json.proofs.changes.push_no_failure.Goals as goal

pub returns : goal.returns
returns c =
    object_told ((codes "kind", text (codes "noFailure")) ∷ (codes "value", value_json c.args.value) ∷ []) refl
    c.end_object.result (tried_members (NoFailure c.args.value)) _ _ _ _ refl c.in_ok-begin_object.ensures
    (next_row _ _ _ _ _ _ (one_row _ _ _ _ c.in_ok-text.ensures) c.in_ok-stage_value.ensures)
    c.end_object.ensures
