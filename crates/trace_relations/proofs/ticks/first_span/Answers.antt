use mir.Syntax.{w128}
use mir.Val.{of_z, to_z}
use Rattle.std.proofs.Common.{◌+◌, ◌∙◌, Some, ap, drop, length, rules, sym}
use Rattle.std.specs.Prelude.{find}
use Rattle.std.specs.List.{zip}
use Rattle.std.specs.Option.{option_eq, option_map_or}
use Rattle.std.specs.Ordering.{int_eq}
use Rattle.std.proofs.lemmas.Int.{to_z-of_z}
use Rattle.std.proofs.lemmas.List.{length_push}
use Rattle.std.proofs.lemmas.Slice.Zip.{zip_end, zip_turn}
use Rattle.trace_relations.specs.Ticks.{is_first}
use Rattle.trace_relations.proofs.Telling.{first_found, first_passed, span_of, zipped_all, zipped_more}
use Rattle.trace_relations.proofs.ticks.first_span.Goals as goal

pub loop-other-preserved : goal.loop-other-preserved
loop-other-preserved c =
    let turn = zip_turn c.args.spans.now c.args.times.now c.loop-other.yielded c.into_iter-other-iterator.result c.loop-other.other-iterator c.next.new.self c.next.result (search rules) (search rules) c.loop-other.yielded_by (c.in-Some.other, c.in-Some.of_other) c.in-Some.is c.next.ensures.steps in
    let n = length c.loop-other.yielded in
    let pairs = zip c.args.spans.now c.args.times.now in
    let first = zipped_more c.args.spans.now c.args.times.now n c.in-Some.other.now c.in-Some.of_other.now turn.0 turn.1 (turn.2 c.in-Some.other.now) (turn.3 c.in-Some.of_other.now) in
    let origin = to_z w128 (of_z w128 c.args.origin) in
    let fails = sym (c.eq.ensures ∙ ap (λ o. option_eq int_eq o (Some origin)) c.earlier.ensures) ∙ c.if-eq.false in
    c.loop-other.invariant ∙ ap (find (is_first origin)) first ∙ first_passed origin c.in-Some.other.now c.in-Some.of_other.now (drop (n + 1) pairs) fails
    ∙ ap (λ k. find (is_first origin) (drop k pairs)) (sym (length_push c.loop-other.yielded (c.in-Some.other, c.in-Some.of_other)))

pub returns : goal.returns
returns c =
    let end = zip_end c.args.spans.now c.args.times.now c.loop-other.yielded c.into_iter-other-iterator.result c.loop-other.other-iterator c.next.new.self c.next.result (search rules) (search rules) c.loop-other.yielded_by c.in-None.is c.next.ensures.steps in
    let none = zipped_all c.args.spans.now c.args.times.now (length c.loop-other.yielded) end in
    let pairs = zip c.args.spans.now c.args.times.now in
    let origin = to_z w128 (of_z w128 c.args.origin) in
    let same = to_z-of_z w128 c.args.origin c.ranges.origin in
    sym (ap (λ z. option_map_or span_of (find (is_first z) pairs) c.args.span.now) (sym same) ∙ ap (λ r. option_map_or span_of r c.args.span.now) (c.loop-other.invariant ∙ ap (find (is_first origin)) none))

pub returns-then-eq : goal.returns-then-eq
returns-then-eq c =
    let turn = zip_turn c.args.spans.now c.args.times.now c.loop-other.yielded c.into_iter-other-iterator.result c.loop-other.other-iterator c.next.new.self c.next.result (search rules) (search rules) c.loop-other.yielded_by (c.in-Some.other, c.in-Some.of_other) c.in-Some.is c.next.ensures.steps in
    let n = length c.loop-other.yielded in
    let pairs = zip c.args.spans.now c.args.times.now in
    let first = zipped_more c.args.spans.now c.args.times.now n c.in-Some.other.now c.in-Some.of_other.now turn.0 turn.1 (turn.2 c.in-Some.other.now) (turn.3 c.in-Some.of_other.now) in
    let origin = to_z w128 (of_z w128 c.args.origin) in
    let same = to_z-of_z w128 c.args.origin c.ranges.origin in
    let passes = sym (c.eq.ensures ∙ ap (λ o. option_eq int_eq o (Some origin)) c.earlier.ensures) ∙ c.if-eq.true in
    sym (ap (λ z. option_map_or span_of (find (is_first z) pairs) c.args.span.now) (sym same)
    ∙ ap (λ r. option_map_or span_of r c.args.span.now) (c.loop-other.invariant ∙ ap (find (is_first origin)) first ∙ first_found origin c.in-Some.other.now c.in-Some.of_other.now (drop (n + 1) pairs) passes))
