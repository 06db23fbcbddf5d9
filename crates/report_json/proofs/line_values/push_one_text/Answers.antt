use Rattle.std.proofs.Common.{◌∷◌, [], refl}
use Rattle.report_json.specs.Json.{text}
use Rattle.report_json.proofs.Pushed.{object_told, one_row}
use Rattle.report_json.proofs.line_values.push_one_text.Goals as goal

pub returns : goal.returns
returns c =
    let rows = (c.args.name.now, text c.args.content.now) ∷ [] in
    object_told rows refl c.end_object.result rows _ _ _ _ refl c.in_ok-begin_object.ensures (one_row _ _ _ _ c.in_ok-text.ensures) c.end_object.ensures
