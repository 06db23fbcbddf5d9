use Rattle.std.proofs.Common.{◌∷◌, [], codes, refl}
use Rattle.report_json.specs.Json.{text}
use Rattle.report_json.proofs.Pushed.{next_row, object_told, one_row}
use Rattle.report_json.proofs.stages.push_ended.Goals as goal

pub returns : goal.returns
returns c =
    object_told ((codes "by", text c.args.end.now) ∷ (codes "kind", text (codes "ended")) ∷ []) refl
    c.end_object.result ((codes "kind", text (codes "ended")) ∷ (codes "by", text c.args.end.now) ∷ []) _ _ _ _ refl c.in_ok-begin_object.ensures
    (next_row _ _ _ _ _ _ (one_row _ _ _ _ c.in_ok-text.ensures) c.in_ok-text-2.ensures)
    c.end_object.ensures
