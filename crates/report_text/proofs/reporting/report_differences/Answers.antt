use Rattle.std.proofs.Common.{◌+◌, ◌∙◌, Err, ap, subst}
use Rattle.std.proofs.lemmas.Result.{err_from_is_err_and}
use Rattle.std.specs.Io.KnownBytes.{Appends}
use Rattle.text_io.specs.Sink.{AppendsPrefix}
use Rattle.text_io.proofs.Written.{AppendsPrefix-none}
use Rattle.text_io.proofs.Writing.{on_err}
use Rattle.report_rows.specs.declared.fault.ReportFault.{ReportFault}
use Rattle.report_rows.specs.Report.{Report}
use Rattle.report_rows.proofs.Answering.{is_there, same_failures}
use Rattle.report_text.specs.Texts.{report_text}
use Rattle.report_text.proofs.reporting.report_differences.Goals as goal

pub returns-in_err-said-clause-err : goal.returns-in_err-said-clause-err
returns-in_err-said-clause-err g c = on_err _ (AppendsPrefix-none _ _)

pub returns-in_err-write_said-clause-err : goal.returns-in_err-write_said-clause-err
returns-in_err-write_said-clause-err g c =
    on_err _ (subst (λ (said : Report). AppendsPrefix (g.S.Sink.held c.args.sink.now) (g.S.Sink.held c.write_said.new.sink) (report_text said)) c.in_ok-said.ensures c.in_err-write_said.ensures.err)

pub returns-in_err-write_said-clause-found : goal.returns-in_err-write_said-clause-found
returns-in_err-write_said-clause-found g c =
    let p = err_from_is_err_and c.from_residual-in_err-write_said.result c.from_residual-in_err-write_said.ensures.1 in
    is_there c.from_residual-in_err-write_said.result _ (p.1 ∙ ap (λ (fault : ReportFault). Err fault) p.2)

pub returns-in_err-write_said-clause-failures : goal.returns-in_err-write_said-clause-failures
returns-in_err-write_said-clause-failures g c =
    let p = err_from_is_err_and c.from_residual-in_err-write_said.result c.from_residual-in_err-write_said.ensures.1 in
    let same = same_failures c.from_residual-in_err-write_said.result _ (p.1 ∙ ap (λ (fault : ReportFault). Err fault) p.2) in
    c.in_err-write_said.ensures.counted ∙ ap (λ count. g.S.Sink.failures c.args.sink.now + count) same

pub returns-clause-ok : goal.returns-clause-ok
returns-clause-ok g c =
    subst (λ (said : Report). Appends (g.S.Sink.held c.args.sink.now) (g.S.Sink.held c.write_said.new.sink) (report_text said)) c.in_ok-said.ensures c.in_ok-write_said.ensures.ok
