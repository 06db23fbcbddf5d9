use Rattle.text_io.proofs.Written.{AppendsPrefix-none}
use Rattle.recording_text.proofs.Lines.{on_err}
use Rattle.recording_text.proofs.report.write_report_object.Goals as goal

pub returns-in_err-bytes-clause-err : goal.returns-in_err-bytes-clause-err
returns-in_err-bytes-clause-err g c = on_err _ (AppendsPrefix-none _ _)
