use mir.Syntax.{w128}
use mir.Val.{of_z, to_z}
use Rattle.std.proofs.Common.{◌≡◌, ◌+◌, ◌∙◌, Err, Ok, ap, drop, length, rules, sym}
use Rattle.std.specs.List.{zip}
use Rattle.std.proofs.lemmas.List.{length_push}
use Rattle.std.proofs.lemmas.Slice.Zip.{zip_end, zip_turn}
use Rattle.trace_relations.specs.declared.fault.RelationsFault.TheVariants.{NoTime}
use Rattle.trace_relations.specs.Ticks.{earliest_from}
use Rattle.trace_relations.proofs.Telling.{earliest_fails, earliest_more, zipped_all, zipped_more}
use Rattle.trace_relations.proofs.ticks.earliest_time.Goals as goal

pub loop-span-preserved : goal.loop-span-preserved
loop-span-preserved c =
    let turn = zip_turn c.args.spans.now c.args.times.now c.loop-span.yielded c.into_iter-span-iterator.result c.loop-span.span-iterator c.next.new.self c.next.result (search rules) (search rules) c.loop-span.yielded_by (c.in-Some.span, c.in-Some.of_span) c.in-Some.is c.next.ensures.steps in
    let n = length c.loop-span.yielded in
    let pairs = zip c.args.spans.now c.args.times.now in
    let first = zipped_more c.args.spans.now c.args.times.now n c.in-Some.span.now c.in-Some.of_span.now turn.0 turn.1 (turn.2 c.in-Some.span.now) (turn.3 c.in-Some.of_span.now) in
    c.loop-span.invariant ∙ ap (earliest_from c.loop-span.earliest) first ∙ earliest_more c.loop-span.earliest c.in-Some.span.now c.in-Some.of_span.now (drop (n + 1) pairs) c.earlier-time.result c.earlier-time.ensures (search rules)
    ∙ ap (λ o. earliest_from o (drop (n + 1) pairs)) (sym c.earlier-earliest.ensures) ∙ ap (λ k. earliest_from c.earlier-earliest.result (drop k pairs)) (sym (length_push c.loop-span.yielded (c.in-Some.span, c.in-Some.of_span)))

pub returns : goal.returns
returns c =
    let end = zip_end c.args.spans.now c.args.times.now c.loop-span.yielded c.into_iter-span-iterator.result c.loop-span.span-iterator c.next.new.self c.next.result (search rules) (search rules) c.loop-span.yielded_by c.in-None.is c.next.ensures.steps in
    let none = zipped_all c.args.spans.now c.args.times.now (length c.loop-span.yielded) end in
    let same : to_z w128 (of_z w128 c.unwrap_or.result) ≡ c.unwrap_or.result = search rules in
    c.loop-span.invariant ∙ ap (earliest_from c.loop-span.earliest) none ∙ ap Ok (sym (same ∙ c.unwrap_or.ensures))

pub returns-then-is_none : goal.returns-then-is_none
returns-then-is_none c =
    let turn = zip_turn c.args.spans.now c.args.times.now c.loop-span.yielded c.into_iter-span-iterator.result c.loop-span.span-iterator c.next.new.self c.next.result (search rules) (search rules) c.loop-span.yielded_by (c.in-Some.span, c.in-Some.of_span) c.in-Some.is c.next.ensures.steps in
    let n = length c.loop-span.yielded in
    let pairs = zip c.args.spans.now c.args.times.now in
    let first = zipped_more c.args.spans.now c.args.times.now n c.in-Some.span.now c.in-Some.of_span.now turn.0 turn.1 (turn.2 c.in-Some.span.now) (turn.3 c.in-Some.of_span.now) in
    c.loop-span.invariant ∙ ap (earliest_from c.loop-span.earliest) first ∙ earliest_fails c.loop-span.earliest c.in-Some.span.now c.in-Some.of_span.now (drop (n + 1) pairs) c.earlier-time.result c.earlier-time.ensures (search rules)
    ∙ ap (λ name. Err (NoTime name)) (sym c.in_ok-of.ensures)
