use Rattle.std.proofs.Common.{List, ◌++◌, ◌+◌, ◌*◌, ◌<◌, Result, Ok, refl, sym, ap, subst, arith, rules}
use Rattle.std.proofs.lemmas.Result.{err_from_is_err_and}
use Rattle.serde_json.specs.Data.{depth, items_depth}
use Rattle.trace_spans.specs.declared.fault.Fault.{Fault}
use Rattle.trace_spans.specs.declared.span.Span.{Span}
use Rattle.trace_spans.specs.Members.{then_on}
use Rattle.trace_spans.specs.Reads.{IsReadAs}
use Rattle.trace_spans.specs.Spans.{spans_of_items, spans_of_list, spans_of_text}
use Rattle.trace_spans.proofs.Formatted.{depth_of_array, first_refused_in, list_after, next_shallower, text_as_list, text_as_none, text_fault, text_told}
use Rattle.trace_spans.proofs.Reading.{fault_of_added, none_left, part_added, part_refused}
use Rattle.trace_spans.proofs.formats.+texts.Goals as goal

pub add_text-returns-in_err-add_formatted : goal.add_text-returns-in_err-add_formatted
add_text-returns-in_err-add_formatted t c =
    let p = err_from_is_err_and c.from_residual.result c.from_residual.ensures.1 in
    rw (p.1, p.2) (text_fault _ c.args.text.now c.args.spans.now c.in_err-add_formatted.ensures)

pub add_text-returns-then-branch : goal.add_text-returns-then-branch
add_text-returns-then-branch t c = text_told _ c.args.text.now c.args.spans.now c.add_formatted.new.spans c.if-branch.true c.in_ok-add_formatted.ensures

pub add_text-add_list-requires : goal.add_text-add_list-requires
add_text-add_list-requires t c =
    let deep = depth_of_array c.args.text.now c.in-Some.items (sym c.in-Some.ensures) in
    let smaller : 3 * items_depth c.in-Some.items + 2 < 3 * depth c.args.text.now = omega (arith, deep) in
    first_of (omega (arith, smaller), search (rules, smaller))

pub add_text-returns-in-Some : goal.add_text-returns-in-Some
add_text-returns-in-Some t c =
    subst (λ (m : Result (List Span) Fault). IsReadAs (λ _. c.add_list.new.spans) c.add_list.result m)
    (text_as_list _ c.args.text.now c.in-Some.items c.args.spans.now c.add_formatted.new.spans c.if-branch.false c.in_ok-add_formatted.ensures (sym c.in-Some.ensures))
    c.add_list.ensures

pub add_text-returns-in-None : goal.add_text-returns-in-None
add_text-returns-in-None t c = text_as_none _ c.args.text.now c.args.spans.now c.add_formatted.new.spans c.if-branch.false c.in_ok-add_formatted.ensures (sym c.in-None.ensures)

pub add_list-returns-in_default : goal.add_list-returns-in_default
add_list-returns-in_default t c = ap (λ items. then_on (spans_of_list items) (λ more. Ok (c.args.spans.now ++ more))) c.in_default.ensures.value.0

pub add_list-add_text-requires : goal.add_list-add_text-requires
add_list-add_text-requires t c =
    let less = next_shallower c.args.items c.next.new.self c.in-Some.first c.in-Some.ensures.value in
    let smaller : 3 * depth c.in-Some.first < 3 * items_depth c.args.items + 2 = omega (arith, less.0) in
    first_of (omega (arith, smaller), search (rules, smaller))

pub add_list-returns-in_err-add_text : goal.add_list-returns-in_err-add_text
add_list-returns-in_err-add_text t c =
    let p = err_from_is_err_and c.from_residual.result c.from_residual.ensures.1 in
    rw (p.1, p.2) (first_refused_in _ (spans_of_list c.args.items) (spans_of_text c.in-Some.first) (spans_of_items c.next.new.self) c.args.spans.now (ap spans_of_list c.in-Some.ensures.value) c.in_err-add_text.ensures)

pub add_list-add_items-requires : goal.add_list-add_items-requires
add_list-add_items-requires t c =
    let less = next_shallower c.args.items c.next.new.self c.in-Some.first c.in-Some.ensures.value in
    let smaller : 3 * items_depth c.next.new.self + 1 < 3 * items_depth c.args.items + 2 = omega (arith, less.1) in
    first_of (omega (arith, smaller), search (rules, smaller))

pub add_list-returns : goal.add_list-returns
add_list-returns t c =
    subst (λ (m : Result (List Span) Fault). IsReadAs (λ _. c.add_items.new.spans) c.add_items.result m)
    (list_after (spans_of_list c.args.items) (spans_of_text c.in-Some.first) (spans_of_items c.next.new.self) c.args.spans.now c.add_text.new.spans (ap spans_of_list c.in-Some.ensures.value) c.in_ok-add_text.ensures)
    c.add_items.ensures

pub add_items-add_text-requires : goal.add_items-add_text-requires
add_items-add_text-requires t c =
    let less = next_shallower c.items.items c.next.new.self c.in-Some.item c.in-Some.ensures.value in
    let smaller : 3 * depth c.in-Some.item < 3 * items_depth c.args.items + 1 = omega (arith, less.0, c.items.invariant.1) in
    first_of (omega (arith, smaller), search (rules, smaller))

pub add_items-returns-in_err-add_text : goal.add_items-returns-in_err-add_text
add_items-returns-in_err-add_text t c =
    let p = err_from_is_err_and c.from_residual.result c.from_residual.ensures.1 in
    rw (p.1, p.2) (part_refused _ spans_of_items _ c.items.items c.next.new.self c.in-Some.item (spans_of_text c.in-Some.item) _ c.items.spans c.items.invariant.0 c.in-Some.ensures.value refl (fault_of_added _ (spans_of_text c.in-Some.item) c.items.spans c.in_err-add_text.ensures))

pub add_items-items-preserved : goal.add_items-items-preserved
add_items-items-preserved t c =
    let less = next_shallower c.items.items c.next.new.self c.in-Some.item c.in-Some.ensures.value in (
      part_added spans_of_items _ c.items.items c.next.new.self c.in-Some.item (spans_of_text c.in-Some.item) c.items.spans c.add_text.new.spans c.items.invariant.0 c.in-Some.ensures.value refl c.in_ok-add_text.ensures,
      omega (arith, less.1, c.items.invariant.1),
    )

pub add_items-returns : goal.add_items-returns
add_items-returns t c = none_left spans_of_items _ c.items.items c.items.spans c.items.invariant.0 c.in_default.ensures.value.0 refl
