use Rattle.std.proofs.Common.{◌∙◌, ap, subst}
use Rattle.std.specs.Io.KnownBytes.{Appends}
use Rattle.text_io.specs.Sink.{AppendsPrefix}
use Rattle.text_io.proofs.Written.{AppendsPrefix-after, AppendsPrefix-longer}
use Rattle.recording_text.specs.Texts.{head_text, recording_text}
use Rattle.recording_text.proofs.Lines.{end_stopped, on_err, whole_written}
use Rattle.recording_text.proofs.writing.write_recording.Goals as goal

pub returns-in_err-write_text-clause-err : goal.returns-in_err-write_text-clause-err
unfolding recording_text
returns-in_err-write_text-clause-err g c =
    on_err _ (AppendsPrefix-longer _ _ _ _ (AppendsPrefix-longer _ _ _ _ (subst (AppendsPrefix _ _) (c.head_text.ensures ∙ ap head_text c.mode.ensures) c.in_err-write_text.ensures.err)))

pub returns-in_err-write_stages-clause-err : goal.returns-in_err-write_stages-clause-err
unfolding recording_text
returns-in_err-write_stages-clause-err g c =
    on_err _ (AppendsPrefix-longer _ _ _ _
    (AppendsPrefix-after _ _ _ _ _ (subst (Appends _ _) (c.head_text.ensures ∙ ap head_text c.mode.ensures) c.in_ok-write_text.ensures.ok) c.in_err-write_stages.ensures.err))

pub returns-clause-ok : goal.returns-clause-ok
unfolding recording_text
returns-clause-ok g c =
    whole_written _ _ _ _ _ _ _ _ (subst (Appends _ _) (c.head_text.ensures ∙ ap head_text c.mode.ensures) c.in_ok-write_text.ensures.ok) c.in_ok-write_stages.ensures.ok c.write_text-2.ensures.ok

pub returns-clause-err : goal.returns-clause-err
unfolding recording_text
returns-clause-err g c =
    end_stopped _ _ _ _ _ _ _ _ (subst (Appends _ _) (c.head_text.ensures ∙ ap head_text c.mode.ensures) c.in_ok-write_text.ensures.ok) c.in_ok-write_stages.ensures.ok c.write_text-2.ensures.err
