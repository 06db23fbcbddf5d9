use Rattle.std.proofs.Common.{◌∙◌, subst}
use Rattle.std.specs.Io.KnownBytes.{Appends}
use Rattle.text_io.specs.Sink.{AppendsPrefix}
use Rattle.text_io.proofs.Written.{AppendsPrefix-longer, AppendsPrefix-none}
use Rattle.recording_text.proofs.Lines.{both_written, on_err, rest_stopped}
use Rattle.recording_text.proofs.report.write_report_lines.Goals as goal

pub returns-in_err-head-clause-err : goal.returns-in_err-head-clause-err
returns-in_err-head-clause-err g c = on_err _ (AppendsPrefix-none _ _)

pub returns-in_err-write-clause-err : goal.returns-in_err-write-clause-err
returns-in_err-write-clause-err g c = on_err _ (AppendsPrefix-longer _ _ _ _ (subst (AppendsPrefix _ _) (c.as_bytes.ensures.value ∙ c.in_ok-head.ensures) c.in_err-write.ensures.err))

pub returns-clause-ok : goal.returns-clause-ok
returns-clause-ok g c = both_written _ _ _ _ _ (subst (Appends _ _) (c.as_bytes.ensures.value ∙ c.in_ok-head.ensures) c.in_ok-write.ensures.ok) _ c.write_recording.ensures.ok

pub returns-clause-err : goal.returns-clause-err
returns-clause-err g c = rest_stopped _ _ _ _ _ (subst (Appends _ _) (c.as_bytes.ensures.value ∙ c.in_ok-head.ensures) c.in_ok-write.ensures.ok) _ c.write_recording.ensures.err
