use Rattle.text_io.proofs.Writing.{on_err}
use Rattle.text_io.proofs.InTurn.{in_first, in_second, in_third, in_fourth}
use Rattle.tried_changes.proofs.telling.tell_trial.Goals as goal

pub returns-in_err-tell_report-clause-err : goal.returns-in_err-tell_report-clause-err
returns-in_err-tell_report-clause-err g c = on_err _ (in_first _ _ _ _ _ _ c.in_err-tell_report.ensures.err)

pub returns-in_err-tell_comparison-clause-err : goal.returns-in_err-tell_comparison-clause-err
returns-in_err-tell_comparison-clause-err g c = on_err _ (in_second _ _ _ _ _ _ _ c.in_ok-tell_report.ensures.ok c.in_err-tell_comparison.ensures.err)

pub returns-in_err-tell_comparison-2-clause-err : goal.returns-in_err-tell_comparison-2-clause-err
returns-in_err-tell_comparison-2-clause-err g c =
    on_err _ (in_third _ _ _ _ _ _ _ _ c.in_ok-tell_report.ensures.ok c.in_ok-tell_comparison.ensures.ok c.in_err-tell_comparison-2.ensures.err)

pub returns-clause-err : goal.returns-clause-err
returns-clause-err g c =
    in_fourth _ _ _ _ _ _ _ _ _ _ c.in_ok-tell_report.ensures.ok c.in_ok-tell_comparison.ensures.ok c.in_ok-tell_comparison-2.ensures.ok c.tell_report-2.ensures.err
