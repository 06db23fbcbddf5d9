use mir.Syntax.{w128}
use mir.Val.{of_z, to_z}
use Rattle.std.proofs.Common.{◌≡◌, ◌+◌, ◌^◌, ◌++◌, [], ◌∷◌, ◌∙◌, ap, arith, drop, length, pos, rules, subst, sym}
use Rattle.std.specs.Prelude.{unwrap_or}
use Rattle.std.proofs.lemmas.Int.{ints}
use Rattle.std.proofs.lemmas.List.{length_push}
use Rattle.std.proofs.lemmas.Slice.Zip.{zip_end, zip_turn}
use Rattle.trace_relations.specs.KeptMoves.{IsAtMost}
use Rattle.trace_relations.specs.Times.{times_from, times_moved}
use Rattle.trace_relations.proofs.Clocked.{all_timed, clocks_long, move_of_span, move_within, moved_by, times_more}
use Rattle.trace_relations.proofs.placing.all_times.Goals as goal

pub times_moved-requires : goal.times_moved-requires
times_moved-requires c =
    let by : IsAtMost (2 ^ 80) c.unwrap_or-by.result = subst (IsAtMost (2 ^ 80)) (sym (c.unwrap_or-by.ensures ∙ ap (λ o. unwrap_or o (pos 0)) c.move_of.ensures)) (move_within (2 ^ 80) c.args.moves.now c.in-Some.clock.now c.requires.within) in
    (omega (arith, ints), omega (arith, ints))

pub loop-span-preserved : goal.loop-span-preserved
loop-span-preserved c =
    let n = length c.loop-span.yielded in
    let spans = c.args.spans.now in
    let by = moved_by spans c.args.moves.now in
    let turn = zip_turn spans c.args.clocks.now c.loop-span.yielded c.into_iter-span-iterator.result c.loop-span.span-iterator c.next.new.self c.next.result (search rules) (search rules) c.loop-span.yielded_by (c.in-Some.span, c.in-Some.clock) c.in-Some.is c.next.ensures.steps in
    let same : to_z w128 (of_z w128 c.unwrap_or-by.result) ≡ c.unwrap_or-by.result = search rules in
    let move = move_of_span spans c.args.clocks.now c.args.moves.now n c.in-Some.clock.now c.unwrap_or-by.result c.requires.clocks turn.1 (turn.3 c.in-Some.clock.now) (c.unwrap_or-by.ensures ∙ ap (λ o. unwrap_or o (pos 0)) c.move_of.ensures) in
    let now = c.in_ok-push.ensures.items ∙ ap (λ t. c.loop-span.times.items ++ t ∷ []) (c.times_moved.ensures ∙ ap (λ z. times_moved z c.in-Some.span.now) same) in
    times_more by spans n c.in-Some.span.now c.loop-span.times.items c.push.new.self.items c.unwrap_or-by.result turn.0 (turn.2 c.in-Some.span.now) move now c.loop-span.invariant
    ∙ ap (λ k. c.push.new.self.items ++ times_from by k (drop k spans)) (sym (length_push c.loop-span.yielded (c.in-Some.span, c.in-Some.clock)))

pub returns : goal.returns
returns c =
    let end = zip_end c.args.spans.now c.args.clocks.now c.loop-span.yielded c.into_iter-span-iterator.result c.loop-span.span-iterator c.next.new.self c.next.result (search rules) (search rules) c.loop-span.yielded_by c.in-None.is c.next.ensures.steps in
    let long = clocks_long c.args.spans.now c.args.clocks.now c.requires.clocks in
    all_timed (moved_by c.args.spans.now c.args.moves.now) c.args.spans.now (length c.loop-span.yielded) c.loop-span.times.items (omega arith) c.loop-span.invariant
