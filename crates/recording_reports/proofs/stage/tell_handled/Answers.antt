use Rattle.std.proofs.Common.{◌∙◌, Bool, OnErr, [], cond, subst, sym}
use Rattle.text_io.specs.Sink.{AppendsPrefix}
use Rattle.text_io.proofs.Writing.{on_err}
use Rattle.text_io.proofs.Written.{AppendsPrefix-none}
use Rattle.recording_reports.specs.Reported.{beside, told}
use Rattle.recording_reports.proofs.stage.tell_handled.Goals as goal

pub returns-in_err-has_handled-clause-err : goal.returns-in_err-has_handled-clause-err
returns-in_err-has_handled-clause-err g c = on_err _ (AppendsPrefix-none _ _)

pub returns-then-branch-clause-err : goal.returns-then-branch-clause-err
returns-then-branch-clause-err g c =
    let text = told c.args.form c.args.version.now (beside c.args.place) in
    subst (λ (has : Bool). OnErr c.tell_report.result (AppendsPrefix (g.S.Sink.held c.args.sink.now) (g.S.Sink.held c.tell_report.new.sink) (cond has text [])))
    (sym c.if-branch.true ∙ c.in_ok-has_handled.ensures) c.tell_report.ensures.err
