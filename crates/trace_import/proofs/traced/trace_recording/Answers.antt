use Rattle.std.proofs.Common.{◌∙◌, Err, List, ap, subst, sym}
use Rattle.std.proofs.lemmas.Result.{err_from_is_err_and}
use Rattle.trace_spans.specs.declared.span.Span.{Span}
use Rattle.trace_stages.specs.Names.{names}
use Rattle.trace_import.specs.Imported.{IsTracedFrom}
use Rattle.trace_import.proofs.Made.{not_read, not_told, traced}
use Rattle.trace_import.proofs.traced.trace_recording.Goals as goal

pub returns-in_err-reading : goal.returns-in_err-reading
returns-in_err-reading c =
    let p = err_from_is_err_and c.from_residual.result c.from_residual.ensures.1 in
    subst (IsTracedFrom c.args.mapping c.args.trace.now) (sym (p.1 ∙ ap Err p.2)) (not_read c.args.mapping c.args.trace.now c.in_err-reading.field-0.0 c.in_err-reading.ensures)

pub returns-in_err-text : goal.returns-in_err-text
returns-in_err-text c =
    let reading = c.in_ok-reading.reading in
    let named = c.in_ok-names.ensures ∙ ap (λ (spans : List Span). names spans c.deref.result.now) c.as_slice.ensures ∙ ap (names reading.trace.now.spans) c.deref.ensures.value in
    let p = err_from_is_err_and c.from_residual-in_err-text.result c.from_residual-in_err-text.ensures.1 in
    subst (IsTracedFrom c.args.mapping c.args.trace.now) (sym (p.1 ∙ ap Err p.2))
    (not_told c.args.mapping c.args.trace.now reading c.in_ok-names.names c.in_err-text.field-0.0 c.in_ok-reading.ensures named c.in_err-text.ensures)

pub returns : goal.returns
returns c =
    let reading = c.in_ok-reading.reading in
    let named = c.in_ok-names.ensures ∙ ap (λ (spans : List Span). names spans c.deref.result.now) c.as_slice.ensures ∙ ap (names reading.trace.now.spans) c.deref.ensures.value in
    let told = traced c.args.mapping c.args.trace.now reading c.in_ok-names.names c.in_ok-text.text c.in_ok-reading.ensures named c.in_ok-text.ensures in
    (c.in_ok-reading.ensures, told.0, told.1)
