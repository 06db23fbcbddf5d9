use Rattle.std.proofs.Common.{ap, sym}
use Rattle.text_io.proofs.Writing.{of_the_text}
use Rattle.recording_reports.specs.Reported.{stage_text}
use Rattle.recording_reports.proofs.stage.tell_stage.Goals as goal

pub returns-in-Explanation-clause-err : goal.returns-in-Explanation-clause-err
returns-in-Explanation-clause-err g c =
    of_the_text _ _ _ _ _ (ap (λ asked. stage_text c.args.form asked c.args.version.now c.args.place) (sym c.in-Explanation.is)) c.explain.ensures.err

pub returns-in-Sweep-clause-err : goal.returns-in-Sweep-clause-err
returns-in-Sweep-clause-err g c =
    of_the_text _ _ _ _ _ (ap (λ asked. stage_text c.args.form asked c.args.version.now c.args.place) (sym c.in-Sweep.is)) c.tell_sweep.ensures.err
