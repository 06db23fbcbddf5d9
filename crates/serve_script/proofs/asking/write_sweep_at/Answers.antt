use Rattle.std.proofs.Common.{ap, Err}
use Rattle.report_rows.specs.Swept.{plain_sweep}
use Rattle.report_form.specs.Told.{sweep_told}
use Rattle.serve_script.proofs.Answering.{then_told, then_part_told}
use Rattle.serve_script.proofs.asking.write_sweep_at.Goals as goal

pub returns-in-Err-NoStage-clause-ok : goal.returns-in-Err-NoStage-clause-ok
returns-in-Err-NoStage-clause-ok g c =
    then_told c.tell_no_stage.result c.args.form (sweep_told c.args.form c.args.version.now c.args.place plain_sweep) _ _ _
    (c.in-Err-NoStage.ensures.no_stage.0 (ap Err c.in-Err-NoStage.field-0-is)) c.in-Err-NoStage.ensures.err c.tell_no_stage.ensures.ok

pub returns-in-Err-NoStage-clause-err : goal.returns-in-Err-NoStage-clause-err
returns-in-Err-NoStage-clause-err g c =
    then_part_told c.tell_no_stage.result c.args.form (sweep_told c.args.form c.args.version.now c.args.place plain_sweep) _ _ _
    (c.in-Err-NoStage.ensures.no_stage.0 (ap Err c.in-Err-NoStage.field-0-is)) c.in-Err-NoStage.ensures.err c.tell_no_stage.ensures.err
