use Rattle.std.proofs.Common.{◌∷◌, [], codes, refl}
use Rattle.stage_ops.specs.declared.state.Join.TheVariants.{Throws}
use Rattle.report_json.specs.Json.{text}
use Rattle.report_json.specs.Heads.{join_members}
use Rattle.report_json.proofs.Pushed.{next_row, object_told, one_row}
use Rattle.report_json.proofs.names.push_thrown.Goals as goal

pub returns : goal.returns
returns c =
    object_told
    ((codes "cause", text c.args.cause.now) ∷ (codes "exception", text (codes "java.util.concurrent.CompletionException")) ∷ (codes "kind", text (codes "throws")) ∷ [])
    refl c.end_object.result (join_members (Throws c.args.cause.now)) _ _ _ _ refl c.in_ok-begin_object.ensures
    (next_row _ _ _ _ _ _ (next_row _ _ _ _ _ _ (one_row _ _ _ _ c.in_ok-text.ensures) c.in_ok-text-2.ensures) c.in_ok-text-3.ensures)
    c.end_object.ensures
