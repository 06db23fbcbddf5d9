use Rattle.std.proofs.Common.{◌∙◌, Err, List, ℕ, ap, option_copied, subst, sym}
use Rattle.std.proofs.lemmas.Result.{err_from_is_err_and}
use Rattle.text_io.specs.Sink.{AppendsPrefix}
use Rattle.trace_import.specs.Imported.{IsImported}
use Rattle.trace_import.proofs.importing.import.Goals as goal

pub returns-in_err-write-clause-written : goal.returns-in_err-write-clause-written
returns-in_err-write-clause-written g c =
    let p = err_from_is_err_and c.from_residual-in_err-write.result c.from_residual-in_err-write.ensures.1 in
    let P : List ℕ → Type 0 = λ text. AppendsPrefix (g.S.Sink.held c.args.sink.now) (g.S.Sink.held c.write.new.self) text in
    subst (IsImported c.args.bytes.now (option_copied c.args.options.trace) c.args.options.mapping (g.S.Sink.held c.args.sink.now) (g.S.Sink.held c.write.new.self)) (sym (p.1 ∙ ap Err p.2))
    (c.in_ok-trace.trace, c.in_ok-trace.ensures, (c.in_ok-recorded.recorded.text.items, c.in_ok-recorded.ensures, subst P c.deref.ensures.value c.in_err-write.ensures.err))
