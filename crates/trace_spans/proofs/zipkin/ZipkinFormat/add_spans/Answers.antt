use Rattle.std.proofs.Common.{List, Option, Result, sym, ap, subst, ◌∙◌}
use Rattle.std.proofs.lemmas.Result.{err_from_is_err_and}
use Rattle.trace_spans.specs.declared.fault.Fault.{Fault}
use Rattle.trace_spans.specs.declared.span.Span.{Span}
use Rattle.trace_spans.specs.Formats.{added}
use Rattle.trace_spans.specs.Reads.{IsFault}
use Rattle.trace_spans.proofs.Formatted.{some_added, some_refused}
use Rattle.trace_spans.proofs.ZipkinListed.{told_list, told_none}
use Rattle.trace_spans.proofs.zipkin.ZipkinFormat.add_spans.Goals as goal

pub returns-then-not-is_told : goal.returns-then-not-is_told
returns-then-not-is_told c = ap (λ told. added told c.args.spans.now) (told_none _ (sym c.if-not-is_told.ensures))

pub returns-in_err-add_list : goal.returns-in_err-add_list
returns-in_err-add_list c =
    let p = err_from_is_err_and c.from_residual.result c.from_residual.ensures.1 in
    let told = told_list c.args.text.now c.in-Some.items (sym c.if-not-is_told.ensures) (sym c.in-Some.ensures) in
    rw (p.1, p.2) (subst (λ (r : Option (Result (List Span) Fault)). IsFault c.in_err-add_list.field-0.0 (added r c.args.spans.now)) (sym told) (some_refused c.in_err-add_list.field-0.0 _ c.args.spans.now c.in_err-add_list.ensures))

pub returns : goal.returns
returns c =
    let told = told_list c.args.text.now c.in-Some.items (sym c.if-not-is_told.ensures) (sym c.in-Some.ensures) in
    ap (λ r. added r c.args.spans.now) told ∙ some_added _ c.args.spans.now c.add_list.new.spans c.in_ok-add_list.ensures
