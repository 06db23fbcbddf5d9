use Rattle.std.proofs.Common.{List, Bool, Option, Result, sym, subst, ◌∙◌}
use Rattle.std.specs.Option.{option_or}
use Rattle.std.proofs.lemmas.Result.{err_from_is_err_and}
use Rattle.serde_json.specs.Data.{Data}
use Rattle.trace_spans.specs.declared.fault.Fault.{Fault}
use Rattle.trace_spans.specs.declared.span.Span.{Span}
use Rattle.trace_spans.specs.Jaeger.{jaeger_told}
use Rattle.trace_spans.specs.Otlp.{other_signals_told, otlp_told}
use Rattle.trace_spans.specs.Reads.{IsFault, IsReadAs}
use Rattle.trace_spans.specs.Spans.{told_in_a_format}
use Rattle.trace_spans.specs.Zipkin.{zipkin_told}
use Rattle.trace_spans.proofs.Formatted.{fault_of_first, of_first, of_second}
use Rattle.trace_spans.proofs.formats.add_formatted.Goals as goal

-- what is left after each of the formats
abbrev after_otlp : Data → Option (Result (List Span) Fault)
after_otlp text = option_or (jaeger_told text) (other_signals_told text)

abbrev after_zipkin : Data → Option (Result (List Span) Fault)
after_zipkin text = option_or (otlp_told text) (after_otlp text)

pub returns-in_err-add_spans : goal.returns-in_err-add_spans
unfolding told_in_a_format
returns-in_err-add_spans c =
    let text = c.args.text.now in
    let p = err_from_is_err_and c.from_residual.result c.from_residual.ensures.1 in
    rw (p.1, p.2) (fault_of_first _ (zipkin_told text) (after_zipkin text) c.args.spans.now c.in_err-add_spans.ensures)

pub returns-then-branch : goal.returns-then-branch
unfolding told_in_a_format
returns-then-branch c =
    let text = c.args.text.now in
    of_first _ (zipkin_told text) (after_zipkin text) c.args.spans.now c.add_spans.new.spans c.if-branch.true c.in_ok-add_spans.ensures

pub returns-in_err-add_spans-2 : goal.returns-in_err-add_spans-2
unfolding told_in_a_format
returns-in_err-add_spans-2 c =
    let text = c.args.text.now in
    let past = of_second _ (zipkin_told text) (after_zipkin text) c.args.spans.now c.add_spans.new.spans c.if-branch.false c.in_ok-add_spans.ensures in
    let p = err_from_is_err_and c.from_residual-in_err-add_spans-2.result c.from_residual-in_err-add_spans-2.ensures.1 in
    rw (p.1, p.2) (subst (λ (r : Result (Bool × List Span) Fault). IsFault c.in_err-add_spans-2.field-0.0 r) (sym past) (fault_of_first _ (otlp_told text) (after_otlp text) c.add_spans.new.spans c.in_err-add_spans-2.ensures))

pub returns-then-branch-2 : goal.returns-then-branch-2
unfolding told_in_a_format
returns-then-branch-2 c =
    let text = c.args.text.now in
    of_second _ (zipkin_told text) (after_zipkin text) c.args.spans.now c.add_spans.new.spans c.if-branch.false c.in_ok-add_spans.ensures
    ∙ of_first _ (otlp_told text) (after_otlp text) c.add_spans.new.spans c.add_spans-2.new.spans c.if-branch-2.true c.in_ok-add_spans-2.ensures

pub returns-in_err-add_spans-3 : goal.returns-in_err-add_spans-3
unfolding told_in_a_format
returns-in_err-add_spans-3 c =
    let text = c.args.text.now in
    let past =
    of_second _ (zipkin_told text) (after_zipkin text) c.args.spans.now c.add_spans.new.spans c.if-branch.false c.in_ok-add_spans.ensures
    ∙ of_second _ (otlp_told text) (after_otlp text) c.add_spans.new.spans c.add_spans-2.new.spans c.if-branch-2.false c.in_ok-add_spans-2.ensures in
    let p = err_from_is_err_and c.from_residual-in_err-add_spans-3.result c.from_residual-in_err-add_spans-3.ensures.1 in
    rw (p.1, p.2) (subst (λ (r : Result (Bool × List Span) Fault). IsFault c.in_err-add_spans-3.field-0.0 r) (sym past) (fault_of_first _ (jaeger_told text) (other_signals_told text) c.add_spans-2.new.spans c.in_err-add_spans-3.ensures))

pub returns-then-branch-3 : goal.returns-then-branch-3
unfolding told_in_a_format
returns-then-branch-3 c =
    let text = c.args.text.now in
    of_second _ (zipkin_told text) (after_zipkin text) c.args.spans.now c.add_spans.new.spans c.if-branch.false c.in_ok-add_spans.ensures
    ∙ of_second _ (otlp_told text) (after_otlp text) c.add_spans.new.spans c.add_spans-2.new.spans c.if-branch-2.false c.in_ok-add_spans-2.ensures
    ∙ of_first _ (jaeger_told text) (other_signals_told text) c.add_spans-2.new.spans c.add_spans-3.new.spans c.if-branch-3.true c.in_ok-add_spans-3.ensures

pub returns : goal.returns
unfolding told_in_a_format
returns c =
    let text = c.args.text.now in
    let past =
    of_second _ (zipkin_told text) (after_zipkin text) c.args.spans.now c.add_spans.new.spans c.if-branch.false c.in_ok-add_spans.ensures
    ∙ of_second _ (otlp_told text) (after_otlp text) c.add_spans.new.spans c.add_spans-2.new.spans c.if-branch-2.false c.in_ok-add_spans-2.ensures
    ∙ of_second _ (jaeger_told text) (other_signals_told text) c.add_spans-2.new.spans c.add_spans-3.new.spans c.if-branch-3.false c.in_ok-add_spans-3.ensures in
    subst (λ (r : Result (Bool × List Span) Fault). IsReadAs (λ is. (is, c.add_spans-4.new._spans)) c.add_spans-4.result r) (sym past) c.add_spans-4.ensures
