use Rattle.std.proofs.Common.{◌∷◌, [], codes, refl}
use Rattle.stage_ends.specs.declared.fate.Fate.TheVariants.{CutOff}
use Rattle.report_json.specs.Json.{count, text}
use Rattle.report_json.specs.Rows.{fate_members}
use Rattle.report_json.proofs.Pushed.{next_row, object_told, one_row}
use Rattle.report_json.proofs.stages.push_cut_off.Goals as goal

pub returns : goal.returns
returns c =
    object_told ((codes "kind", text (codes "cutOff")) ∷ (codes "of", count c.args.of) ∷ (codes "ran", count c.args.ran) ∷ []) refl
    c.end_object.result (fate_members (CutOff c.args.ran c.args.of)) _ _ _ _ refl c.in_ok-begin_object.ensures
    (next_row _ _ _ _ _ _ (next_row _ _ _ _ _ _ (one_row _ _ _ _ c.in_ok-text.ensures) c.in_ok-count.ensures) c.in_ok-count-2.ensures)
    c.end_object.ensures
