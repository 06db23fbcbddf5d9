use Rattle.std.proofs.Common.{◌≡◌, ◌+◌, ◌∙◌, Some, Err, ap, subst}
use Rattle.std.specs.Io.KnownBytes.{Appends}
use Rattle.std.proofs.lemmas.Result.{err_from_is_err_and}
use Rattle.serde_json.specs.Read.{read}
use Rattle.serde_json.specs.Written.{compact_text}
use Rattle.text_io.specs.Sink.{AppendsPrefix}
use Rattle.text_io.proofs.Writing.{on_err}
use Rattle.text_io.proofs.Written.{AppendsPrefix-none}
use Rattle.report_rows.specs.declared.fault.ReportFault.{ReportFault}
use Rattle.report_rows.specs.Report.{Report}
use Rattle.report_rows.proofs.Answering.{is_there, same_failures}
use Rattle.report_json.specs.Heads.{object_of}
use Rattle.report_json.specs.Json.{answer_text, at_line}
use Rattle.report_json.proofs.reporting.write_differences.Goals as goal

pub returns-in_err-said-clause-err : goal.returns-in_err-said-clause-err
returns-in_err-said-clause-err g c = on_err _ (AppendsPrefix-none _ _)

pub returns-in_err-write_said-clause-err : goal.returns-in_err-write_said-clause-err
returns-in_err-write_said-clause-err g c =
    on_err _
    (subst (λ (said : Report). AppendsPrefix (g.S.Sink.held c.args.sink.now) (g.S.Sink.held c.write_said.new.sink) (answer_text c.args.line (object_of said)))
    c.in_ok-said.ensures c.in_err-write_said.ensures.written.err)

pub returns-in_err-write_said-clause-found : goal.returns-in_err-write_said-clause-found
returns-in_err-write_said-clause-found g c =
    let p = err_from_is_err_and c.from_residual-in_err-write_said.result c.from_residual-in_err-write_said.ensures.1 in
    is_there c.from_residual-in_err-write_said.result _ (p.1 ∙ ap (λ (fault : ReportFault). Err fault) p.2)

pub returns-in_err-write_said-clause-failures : goal.returns-in_err-write_said-clause-failures
returns-in_err-write_said-clause-failures g c =
    let p = err_from_is_err_and c.from_residual-in_err-write_said.result c.from_residual-in_err-write_said.ensures.1 in
    let same = same_failures c.from_residual-in_err-write_said.result _ (p.1 ∙ ap (λ (fault : ReportFault). Err fault) p.2) in
    c.in_err-write_said.ensures.written.counted ∙ ap (λ count. g.S.Sink.failures c.args.sink.now + count) same

pub returns-clause-ok : goal.returns-clause-ok
returns-clause-ok g c =
    subst (λ (said : Report). Appends (g.S.Sink.held c.args.sink.now) (g.S.Sink.held c.write_said.new.sink) (answer_text c.args.line (object_of said)))
    c.in_ok-said.ensures c.in_ok-write_said.ensures.written.ok

pub returns-clause-failures : goal.returns-clause-failures
returns-clause-failures g c = c.in_ok-write_said.ensures.written.counted

pub returns-clause-reads_back : goal.returns-clause-reads_back
returns-clause-reads_back g c =
    subst (λ (said : Report). read (compact_text (at_line c.args.line (object_of said))) ≡ Some (at_line c.args.line (object_of said)))
    c.in_ok-said.ensures c.in_ok-write_said.ensures.reads_back
