-- Which of Jaeger's texts a text is.
use Rattle.std.proofs.Common.{◌≡◌, None, Some, true, false, cond, ap, ◌∙◌}
use Rattle.serde_json.specs.Data.{Data, no_items, item}
use Rattle.trace_spans.specs.declared.member.Member.TheVariants as member
use Rattle.trace_spans.specs.Jaeger.{jaeger_spans, jaeger_told, spans_of_items, spans_of_trace, trace_or_span}
use Rattle.trace_spans.specs.Members.{has}

-- an answer of its interface
pub answer_told : (text : Data) → has member.Data text ≡ true → jaeger_told text ≡ Some (jaeger_spans text)
unfolding jaeger_told
answer_told text e = ap (λ b. cond b (Some (jaeger_spans text)) (cond (has member.JaegerTrace text) (trace_or_span text) None)) e

within : (text : Data) → has member.Data text ≡ false → has member.JaegerTrace text ≡ true → jaeger_told text ≡ trace_or_span text
unfolding jaeger_told
within text is_none e =
    ap (λ b. cond b (Some (jaeger_spans text)) (cond (has member.JaegerTrace text) (trace_or_span text) None)) is_none
    ∙ ap (λ b. cond b (trace_or_span text) None) e

-- one of its traces
pub trace_told : (text : Data) → has member.Data text ≡ false → has member.JaegerTrace text ≡ true → has member.Spans text ≡ true → jaeger_told text ≡ Some (spans_of_trace text)
trace_told text is_none e is = within text is_none e ∙ ap (λ b. cond b (Some (spans_of_trace text)) (cond (has member.JaegerSpan text) (Some (spans_of_items None (item text no_items))) None)) is

-- one of its spans
pub alone_told : (text : Data) → has member.Data text ≡ false → has member.JaegerTrace text ≡ true → has member.Spans text ≡ false → has member.JaegerSpan text ≡ true → jaeger_told text ≡ Some (spans_of_items None (item text no_items))
alone_told text is_none e none is =
    within text is_none e
    ∙ ap (λ b. cond b (Some (spans_of_trace text)) (cond (has member.JaegerSpan text) (Some (spans_of_items None (item text no_items))) None)) none
    ∙ ap (λ b. cond b (Some (spans_of_items None (item text no_items))) None) is
