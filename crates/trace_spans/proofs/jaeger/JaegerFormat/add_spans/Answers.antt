use Rattle.std.proofs.Common.{List, Option, Result, sym, ap, subst, ◌∙◌}
use Rattle.std.proofs.lemmas.Result.{err_from_is_err_and}
use Rattle.trace_spans.specs.declared.fault.Fault.{Fault}
use Rattle.trace_spans.specs.declared.member.Member.TheVariants as member
use Rattle.trace_spans.specs.declared.span.Span.{Span}
use Rattle.trace_spans.specs.Formats.{added}
use Rattle.trace_spans.specs.Reads.{IsFault}
use Rattle.trace_spans.proofs.Formatted.{some_added, some_refused}
use Rattle.trace_spans.proofs.JaegerTold.{alone_told, answer_told, trace_told}
use Rattle.trace_spans.proofs.jaeger.JaegerFormat.add_spans.Goals as goal

pub returns-in_err-add_answer : goal.returns-in_err-add_answer
returns-in_err-add_answer c =
    let told = answer_told c.args.text.now (sym c.if-has.ensures) in
    let p = err_from_is_err_and c.from_residual.result c.from_residual.ensures.1 in
    rw (p.1, p.2) (subst (λ (r : Option (Result (List Span) Fault)). IsFault c.in_err-add_answer.field-0.0 (added r c.args.spans.now)) (sym told) (some_refused c.in_err-add_answer.field-0.0 _ c.args.spans.now c.in_err-add_answer.ensures))

pub returns-then-has : goal.returns-then-has
returns-then-has c =
    let told = answer_told c.args.text.now (sym c.if-has.ensures) in
    ap (λ r. added r c.args.spans.now) told ∙ some_added _ c.args.spans.now c.add_answer.new.spans c.in_ok-add_answer.ensures

pub returns-in_err-add_trace : goal.returns-in_err-add_trace
returns-in_err-add_trace c =
    let told = trace_told c.args.text.now (sym c.if-has.ensures) (sym c.if-not-has.ensures) (sym c.if-has-2.ensures) in
    let p = err_from_is_err_and c.from_residual-in_err-add_trace.result c.from_residual-in_err-add_trace.ensures.1 in
    rw (p.1, p.2) (subst (λ (r : Option (Result (List Span) Fault)). IsFault c.in_err-add_trace.field-0.0 (added r c.args.spans.now)) (sym told) (some_refused c.in_err-add_trace.field-0.0 _ c.args.spans.now c.in_err-add_trace.ensures))

pub returns-then-has-2 : goal.returns-then-has-2
returns-then-has-2 c =
    let told = trace_told c.args.text.now (sym c.if-has.ensures) (sym c.if-not-has.ensures) (sym c.if-has-2.ensures) in
    ap (λ r. added r c.args.spans.now) told ∙ some_added _ c.args.spans.now c.add_trace.new.spans c.in_ok-add_trace.ensures

pub returns-in_err-add_alone : goal.returns-in_err-add_alone
returns-in_err-add_alone c =
    let told = alone_told c.args.text.now (sym c.if-has.ensures) (sym c.if-not-has.ensures) (sym c.if-has-2.ensures) (sym c.if-has-3.ensures) in
    let p = err_from_is_err_and c.from_residual-in_err-add_alone.result c.from_residual-in_err-add_alone.ensures.1 in
    rw (p.1, p.2) (subst (λ (r : Option (Result (List Span) Fault)). IsFault c.in_err-add_alone.field-0.0 (added r c.args.spans.now)) (sym told) (some_refused c.in_err-add_alone.field-0.0 _ c.args.spans.now c.in_err-add_alone.ensures))

pub returns-then-has-3 : goal.returns-then-has-3
returns-then-has-3 c =
    let told = alone_told c.args.text.now (sym c.if-has.ensures) (sym c.if-not-has.ensures) (sym c.if-has-2.ensures) (sym c.if-has-3.ensures) in
    ap (λ r. added r c.args.spans.now) told ∙ some_added _ c.args.spans.now c.add_alone.new.spans c.in_ok-add_alone.ensures
