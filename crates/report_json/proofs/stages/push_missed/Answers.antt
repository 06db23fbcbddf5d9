use Rattle.std.proofs.Common.{◌∷◌, [], codes, refl}
use Rattle.report_json.specs.Json.{count, text}
use Rattle.report_json.proofs.Pushed.{next_row, object_told, one_row}
use Rattle.report_json.proofs.stages.push_missed.Goals as goal

pub returns : goal.returns
returns c =
    object_told ((codes "by", count c.args.by) ∷ (codes "kind", text c.args.kind.now) ∷ []) refl
    c.end_object.result ((codes "kind", text c.args.kind.now) ∷ (codes "by", count c.args.by) ∷ []) _ _ _ _ refl c.in_ok-begin_object.ensures
    (next_row _ _ _ _ _ _ (one_row _ _ _ _ c.in_ok-count.ensures) c.in_ok-text.ensures)
    c.end_object.ensures
