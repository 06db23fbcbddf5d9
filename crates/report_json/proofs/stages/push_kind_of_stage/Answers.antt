use Rattle.std.proofs.Common.{refl}
use Rattle.report_json.specs.Rows.{kind_of_stage}
use Rattle.report_json.proofs.Pushed.{next_row, object_told, one_row}
use Rattle.report_json.proofs.stages.push_kind_of_stage.Goals as goal

pub returns : goal.returns
returns c =
    let rows = kind_of_stage c.args.kind.now c.args.name.now in
    object_told rows refl c.end_object.result rows _ _ _ _ refl c.in_ok-begin_object.ensures
    (next_row _ _ _ _ _ _ (one_row _ _ _ _ c.in_ok-text.ensures) c.in_ok-text-2.ensures)
    c.end_object.ensures
