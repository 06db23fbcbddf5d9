use Rattle.std.proofs.Common.{refl}
use Rattle.std.proofs.lemmas.Result.{err_from_is_err_and}
use Rattle.trace_spans.specs.Zipkin.{spans_of_items, zipkin_span}
use Rattle.trace_spans.proofs.Reading.{item_added, none_left, part_refused}
use Rattle.trace_spans.proofs.zipkin.add_items.Goals as goal

pub returns-in_err-span : goal.returns-in_err-span
returns-in_err-span c = λ known are.
    let p = err_from_is_err_and c.from_residual.result c.from_residual.ensures.1 in
    rw (p.1, p.2) (part_refused _ (spans_of_items known) _ c.loop-item.items c.next.new.self c.in-Some.item (zipkin_span known c.in-Some.item) _ c.loop-item.spans (c.loop-item.invariant known are) c.in-Some.ensures.value refl (c.in_err-span.ensures known are))

pub loop-item-preserved : goal.loop-item-preserved
loop-item-preserved c = λ known are.
    item_added (spans_of_items known) _ c.loop-item.items c.next.new.self c.in-Some.item (zipkin_span known c.in-Some.item) c.loop-item.spans c.push.new.self c.in_ok-span.span
    (c.loop-item.invariant known are) c.in-Some.ensures.value refl (c.in_ok-span.ensures known are) c.in_ok-push.ensures.added

pub returns : goal.returns
returns c = λ known are. none_left (spans_of_items known) _ c.loop-item.items c.loop-item.spans (c.loop-item.invariant known are) c.in_default.ensures.value.0 refl
