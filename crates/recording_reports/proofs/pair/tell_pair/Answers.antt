use Rattle.std.proofs.Common.{[]}
use Rattle.std.proofs.KnownBytes.{Appends-nil}
use Rattle.text_io.proofs.Writing.{on_err}
use Rattle.text_io.proofs.InTurn.{in_second, in_third, in_fourth}
use Rattle.recording_reports.proofs.pair.tell_pair.Goals as goal

-- the first of the four texts is none

pub returns-in_err-tell_report-clause-err : goal.returns-in_err-tell_report-clause-err
returns-in_err-tell_report-clause-err g c = on_err _ (in_second _ _ _ [] _ _ _ (Appends-nil _) c.in_err-tell_report.ensures.err)

pub returns-in_err-tell_report-2-clause-err : goal.returns-in_err-tell_report-2-clause-err
returns-in_err-tell_report-2-clause-err g c = on_err _ (in_third _ _ _ _ [] _ _ _ (Appends-nil _) c.in_ok-tell_report.ensures.ok c.in_err-tell_report-2.ensures.err)

pub returns-clause-err : goal.returns-clause-err
returns-clause-err g c = in_fourth _ _ _ _ _ _ [] _ _ _ (Appends-nil _) c.in_ok-tell_report.ensures.ok c.in_ok-tell_report-2.ensures.ok c.tell_differences_at.ensures.err
