use Rattle.std.proofs.Common.{◌∙◌, subst}
use Rattle.std.specs.Io.KnownBytes.{Appends}
use Rattle.text_io.specs.Sink.{AppendsPrefix}
use Rattle.text_io.proofs.Written.{AppendsPrefix-after, AppendsPrefix-longer, AppendsPrefix-none}
use Rattle.recording_text.proofs.Lines.{on_err}
use Rattle.recording_text.proofs.writing.write_stage.Goals as goal

pub returns-in_err-line-clause-err : goal.returns-in_err-line-clause-err
returns-in_err-line-clause-err g c = on_err _ (AppendsPrefix-none _ _)

pub returns-in_err-write_text-clause-err : goal.returns-in_err-write_text-clause-err
returns-in_err-write_text-clause-err g c = on_err _ (AppendsPrefix-longer _ _ _ _ (subst (AppendsPrefix _ _) c.line_break.ensures c.in_err-write_text.ensures.err))

pub returns-in_err-write-clause-err : goal.returns-in_err-write-clause-err
returns-in_err-write-clause-err g c =
    on_err _ (AppendsPrefix-after _ _ _ _ _ (subst (Appends _ _) c.line_break.ensures c.in_ok-write_text.ensures.ok)
    (subst (AppendsPrefix _ _) (c.as_slice.ensures.value ∙ c.in_ok-line.ensures) c.in_err-write.ensures.err))
