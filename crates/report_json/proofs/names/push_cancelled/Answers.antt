use Rattle.std.proofs.Common.{◌∷◌, [], codes, refl}
use Rattle.serde_json.specs.Data.{null}
use Rattle.stage_ops.specs.declared.state.Join.TheVariants.{Cancelled}
use Rattle.report_json.specs.Heads.{join_members}
use Rattle.report_json.specs.Json.{text}
use Rattle.report_json.proofs.Pushed.{next_row, object_told, one_row}
use Rattle.report_json.proofs.names.push_cancelled.Goals as goal

pub returns : goal.returns
returns c =
    object_told
    ((codes "cause", null) ∷ (codes "exception", text (codes "java.util.concurrent.CancellationException")) ∷ (codes "kind", text (codes "throws")) ∷ [])
    refl c.end_object.result (join_members Cancelled) _ _ _ _ refl c.in_ok-begin_object.ensures
    (next_row _ _ _ _ _ _ (next_row _ _ _ _ _ _ (one_row _ _ _ _ c.in_ok-none.ensures) c.in_ok-text.ensures) c.in_ok-text-2.ensures)
    c.end_object.ensures
