use mir.Syntax.{w128}
use mir.Val.{of_z, to_z}
use Rattle.std.proofs.Common.{◌≡◌, ◌+◌, ◌++◌, [], ◌∷◌, ◌∙◌, Ok, ap, drop, length, rules, sym}
use Rattle.std.specs.List.{zip}
use Rattle.std.proofs.lemmas.Int.{to_z-of_z}
use Rattle.std.proofs.lemmas.List.{append-nil, length_push}
use Rattle.std.proofs.lemmas.Slice.Zip.{zip_end, zip_turn}
use Rattle.trace_relations.specs.Ticks.{intervals_from, intervals_of, then_on, too_late}
use Rattle.trace_relations.proofs.Telling.{fault_is, interval_late, interval_told, intervals_fail, intervals_more, zipped_all, zipped_more}
use Rattle.trace_relations.proofs.ticks.intervals_of.Goals as goal

pub loop-span-preserved : goal.loop-span-preserved
loop-span-preserved c =
    let turn = zip_turn c.args.spans.now c.args.times.now c.loop-span.yielded c.into_iter-span-iterator.result c.loop-span.span-iterator c.next.new.self c.next.result (search rules) (search rules) c.loop-span.yielded_by (c.in-Some.span, c.in-Some.of_span) c.in-Some.is c.next.ensures.steps in
    let n = length c.loop-span.yielded in
    let pairs = zip c.args.spans.now c.args.times.now in
    let first = zipped_more c.args.spans.now c.args.times.now n c.in-Some.span.now c.in-Some.of_span.now turn.0 turn.1 (turn.2 c.in-Some.span.now) (turn.3 c.in-Some.of_span.now) in
    let origin = to_z w128 (of_z w128 c.args.origin) in
    let late = too_late origin c.args.spans.now c.args.times.now in
    let told = interval_told c.args.unit origin c.in-Some.of_span.now c.in-Some-interval_of.interval c.in-Some-interval_of.ensures in
    let pushed : c.push.new.self.items ≡ c.loop-span.intervals.items ++ c.in-Some-interval_of.interval ∷ [] = search rules in
    c.loop-span.invariant ∙ ap (λ those. then_on (intervals_from c.args.unit origin late those) (λ rest. Ok (c.loop-span.intervals.items ++ rest))) first
    ∙ intervals_more c.args.unit origin late c.in-Some.span.now c.in-Some.of_span.now (drop (n + 1) pairs) c.loop-span.intervals.items told.0
    ∙ ap (λ those. then_on (intervals_from c.args.unit origin late (drop (n + 1) pairs)) (λ rest. Ok (those ++ rest))) (sym (pushed ∙ ap (λ interval. c.loop-span.intervals.items ++ interval ∷ []) told.1))
    ∙ ap (λ k. then_on (intervals_from c.args.unit origin late (drop k pairs)) (λ rest. Ok (c.push.new.self.items ++ rest))) (sym (length_push c.loop-span.yielded (c.in-Some.span, c.in-Some.of_span)))

pub returns : goal.returns
returns c =
    let end = zip_end c.args.spans.now c.args.times.now c.loop-span.yielded c.into_iter-span-iterator.result c.loop-span.span-iterator c.next.new.self c.next.result (search rules) (search rules) c.loop-span.yielded_by c.in-None.is c.next.ensures.steps in
    let none = zipped_all c.args.spans.now c.args.times.now (length c.loop-span.yielded) end in
    let pairs = zip c.args.spans.now c.args.times.now in
    let origin = to_z w128 (of_z w128 c.args.origin) in
    let same = to_z-of_z w128 c.args.origin c.ranges.origin in
    ap (λ z. intervals_of c.args.unit z c.args.spans.now c.args.times.now) (sym same) ∙ c.loop-span.invariant
    ∙ ap (λ those. then_on (intervals_from c.args.unit origin (too_late origin c.args.spans.now c.args.times.now) those) (λ rest. Ok (c.loop-span.intervals.items ++ rest))) none ∙ ap Ok (append-nil c.loop-span.intervals.items)

pub returns-in-None-interval_of : goal.returns-in-None-interval_of
returns-in-None-interval_of c =
    let turn = zip_turn c.args.spans.now c.args.times.now c.loop-span.yielded c.into_iter-span-iterator.result c.loop-span.span-iterator c.next.new.self c.next.result (search rules) (search rules) c.loop-span.yielded_by (c.in-Some.span, c.in-Some.of_span) c.in-Some.is c.next.ensures.steps in
    let n = length c.loop-span.yielded in
    let pairs = zip c.args.spans.now c.args.times.now in
    let first = zipped_more c.args.spans.now c.args.times.now n c.in-Some.span.now c.in-Some.of_span.now turn.0 turn.1 (turn.2 c.in-Some.span.now) (turn.3 c.in-Some.of_span.now) in
    let origin = to_z w128 (of_z w128 c.args.origin) in
    let same = to_z-of_z w128 c.args.origin c.ranges.origin in
    let late = too_late origin c.args.spans.now c.args.times.now in
    fault_is c.in_ok-too_late-in-None-interval_of.field-0 origin c.args.spans.now c.args.times.now c.in-Some.span.now (intervals_of c.args.unit c.args.origin c.args.spans.now c.args.times.now) c.in_ok-too_late-in-None-interval_of.ensures
    (ap (λ z. intervals_of c.args.unit z c.args.spans.now c.args.times.now) (sym same) ∙ c.loop-span.invariant
    ∙ ap (λ those. then_on (intervals_from c.args.unit origin late those) (λ rest. Ok (c.loop-span.intervals.items ++ rest))) first
    ∙ intervals_fail c.args.unit origin late c.in-Some.span.now c.in-Some.of_span.now (drop (n + 1) pairs) c.loop-span.intervals.items (interval_late c.args.unit origin c.in-Some.of_span.now c.in-None-interval_of.ensures))
