use Rattle.run_comparison.proofs.Counterparts.{live_where_found}
use Rattle.recording_reports.specs.Reported.{stage_text}
use Rattle.recording_reports.proofs.Reporting.{text_of_stage}
use Rattle.recording_reports.proofs.stage.report_stage.Goals as goal

pub tell_stage-end-requires-clause-live : goal.tell_stage-end-requires-clause-live
tell_stage-end-requires-clause-live g c κs within = live_where_found c.in-Ok-load.version.graph.places c.args.name.now c.in-Ok-id_of.place c.in-Ok-id_of.ensures

pub returns-in-Ok-end-clause-written : goal.returns-in-Ok-end-clause-written
returns-in-Ok-end-clause-written g c = (
  stage_text c.args.form c.args.asked c.in-Ok-load.version c.in-Ok-id_of.place,
  text_of_stage c.args.form c.args.asked c.args.name.now c.args.recording.now c.in-Ok.graph c.in-Ok-load.version c.in-Ok-id_of.place c.in-Ok.ensures c.in-Ok-load.ensures c.in-Ok-id_of.ensures,
  c.in-Ok-end.ensures.ok,
)

pub returns-in-Err-Write-clause-written : goal.returns-in-Err-Write-clause-written
returns-in-Err-Write-clause-written g c = (
  stage_text c.args.form c.args.asked c.in-Ok-load.version c.in-Ok-id_of.place,
  text_of_stage c.args.form c.args.asked c.args.name.now c.args.recording.now c.in-Ok.graph c.in-Ok-load.version c.in-Ok-id_of.place c.in-Ok.ensures c.in-Ok-load.ensures c.in-Ok-id_of.ensures,
  c.in-Err-Write.ensures-1.err,
)

pub returns-in-Err-Memory-clause-written : goal.returns-in-Err-Memory-clause-written
returns-in-Err-Memory-clause-written g c = (
  stage_text c.args.form c.args.asked c.in-Ok-load.version c.in-Ok-id_of.place,
  text_of_stage c.args.form c.args.asked c.args.name.now c.args.recording.now c.in-Ok.graph c.in-Ok-load.version c.in-Ok-id_of.place c.in-Ok.ensures c.in-Ok-load.ensures c.in-Ok-id_of.ensures,
  c.in-Err-Memory.ensures-1.err,
)
