use Rattle.recording_reports.specs.Reported.{whole_text}
use Rattle.recording_reports.proofs.Reporting.{text_of_whole}
use Rattle.recording_reports.proofs.all.report_all.Goals as goal

pub returns-in-Ok-end-clause-written : goal.returns-in-Ok-end-clause-written
returns-in-Ok-end-clause-written g c = (
  whole_text c.args.form c.args.asked c.in-Ok-load.version,
  text_of_whole c.args.form c.args.asked c.args.recording.now c.in-Ok.graph c.in-Ok-load.version c.in-Ok.ensures c.in-Ok-load.ensures,
  c.in-Ok-end.ensures.ok,
)

pub returns-in-Err-Write-clause-written : goal.returns-in-Err-Write-clause-written
returns-in-Err-Write-clause-written g c = (
  whole_text c.args.form c.args.asked c.in-Ok-load.version,
  text_of_whole c.args.form c.args.asked c.args.recording.now c.in-Ok.graph c.in-Ok-load.version c.in-Ok.ensures c.in-Ok-load.ensures,
  c.in-Err-Write.ensures-1.err,
)

pub returns-in-Err-Memory-clause-written : goal.returns-in-Err-Memory-clause-written
returns-in-Err-Memory-clause-written g c = (
  whole_text c.args.form c.args.asked c.in-Ok-load.version,
  text_of_whole c.args.form c.args.asked c.args.recording.now c.in-Ok.graph c.in-Ok-load.version c.in-Ok.ensures c.in-Ok-load.ensures,
  c.in-Err-Memory.ensures-1.err,
)
