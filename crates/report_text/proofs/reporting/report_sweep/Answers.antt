use Rattle.std.proofs.Common.{◌≡◌, ◌+◌, [], ◌∙◌, Err, Option, ap, subst, arith}
use Rattle.std.specs.Prelude.{unwrap_or}
use Rattle.std.specs.Option.{option_map}
use Rattle.std.proofs.lemmas.Result.{err_from_is_err_and}
use Rattle.text_io.specs.Sink.{AppendsPrefix}
use Rattle.text_io.proofs.Written.{AppendsPrefix-none}
use Rattle.report_rows.specs.declared.fault.ReportFault.{ReportFault}
use Rattle.report_rows.specs.Faults.{failed_writes}
use Rattle.report_rows.specs.Report.{Report}
use Rattle.report_rows.specs.Said.{sweep_said}
use Rattle.report_rows.proofs.Answering.{no_stage, none_failed, same_failures, stage_is_there, stage_was_there}
use Rattle.text_io.proofs.Writing.{on_err}
use Rattle.report_text.specs.Texts.{report_text}
use Rattle.report_text.proofs.reporting.report_sweep.Goals as goal

pub returns-in_err-said-clause-err : goal.returns-in_err-said-clause-err
returns-in_err-said-clause-err g c = on_err _ (AppendsPrefix-none _ _)

pub returns-in_err-said-clause-no_stage : goal.returns-in_err-said-clause-no_stage
returns-in_err-said-clause-no_stage g c =
    let p = err_from_is_err_and c.from_residual.result c.from_residual.ensures.1 in
    no_stage c.from_residual.result _ report_text (sweep_said c.args.version.now c.args.target c.args.asked) (p.1 ∙ ap (λ (fault : ReportFault). Err fault) p.2) c.in_err-said.ensures.no_stage

pub returns-in_err-said-clause-failures : goal.returns-in_err-said-clause-failures
returns-in_err-said-clause-failures g c =
    let p = err_from_is_err_and c.from_residual.result c.from_residual.ensures.1 in
    let none : failed_writes c.from_residual.result ≡ 0 = none_failed c.from_residual.result _ (p.1 ∙ ap (λ (fault : ReportFault). Err fault) p.2) in
    omega (arith, none)

pub returns-in_err-write_said-clause-err : goal.returns-in_err-write_said-clause-err
returns-in_err-write_said-clause-err g c =
    on_err _ (subst (λ (found : Option Report). AppendsPrefix (g.S.Sink.held c.args.sink.now) (g.S.Sink.held c.write_said.new.sink) ((λ (f : Option Report). unwrap_or (option_map report_text f) []) found)) c.in_ok-said.ensures.value c.in_err-write_said.ensures.err)

pub returns-in_err-write_said-clause-no_stage : goal.returns-in_err-write_said-clause-no_stage
returns-in_err-write_said-clause-no_stage g c =
    let p = err_from_is_err_and c.from_residual-in_err-write_said.result c.from_residual-in_err-write_said.ensures.1 in
    stage_is_there c.from_residual-in_err-write_said.result _ report_text _ (sweep_said c.args.version.now c.args.target c.args.asked) (p.1 ∙ ap (λ (fault : ReportFault). Err fault) p.2) c.in_ok-said.ensures.value

pub returns-in_err-write_said-clause-failures : goal.returns-in_err-write_said-clause-failures
returns-in_err-write_said-clause-failures g c =
    let p = err_from_is_err_and c.from_residual-in_err-write_said.result c.from_residual-in_err-write_said.ensures.1 in
    let same = same_failures c.from_residual-in_err-write_said.result _ (p.1 ∙ ap (λ (fault : ReportFault). Err fault) p.2) in
    c.in_err-write_said.ensures.counted ∙ ap (λ count. g.S.Sink.failures c.args.sink.now + count) same

pub returns-clause-no_stage : goal.returns-clause-no_stage
returns-clause-no_stage g c = stage_was_there _ report_text _ (sweep_said c.args.version.now c.args.target c.args.asked) c.in_ok-said.ensures.value
