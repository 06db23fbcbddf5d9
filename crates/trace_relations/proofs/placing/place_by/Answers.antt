use mir.Syntax.{w128}
use mir.Val.{of_z, to_z}
use Rattle.std.proofs.Common.{◌≡◌, ◌^◌, ◌+◌, ◌∙◌, heap_items, Some, None, ap, refl, rules, set, sym, subst, arith}
use Rattle.trace_relations.specs.Clocks.{move_in, range_of}
use Rattle.trace_relations.specs.KeptMoves.{AreMovesWithin, HaveJoined, IsRangeWithin, moves_in, next_clock}
use Rattle.trace_relations.proofs.Moving.{all_said, moves_at, moves_more, range_more, range_within}
use Rattle.trace_relations.proofs.Reaching.{next_within, placed_at}
use Rattle.trace_relations.proofs.placing.place_by.Goals as goal

pub returns-in_default : goal.returns-in_default
returns-in_default c =
    placed_at c.args.pairs.now c.args.number c.args.moves.now.items (heap_items c.args.coming.now) c.args.moves.now.items (heap_items c.args.coming.now) None
    (sym (c.in_default.ensures ∙ ap (λ those. next_clock (moves_in those) c.args.pairs.now c.args.number) c.as_slice-placed.ensures.value)) (refl, refl)

pub range_of-range-requires-clause-moves : goal.range_of-range-requires-clause-moves
range_of-range-requires-clause-moves c = moves_more (2 ^ 99) (2 ^ 100) c.as_slice-placed.result.now (omega arith) (subst (AreMovesWithin (2 ^ 99)) (sym c.as_slice-placed.ensures.value) c.requires.moves)

pub range_of-range-requires-clause-pairs : goal.range_of-range-requires-clause-pairs
range_of-range-requires-clause-pairs c = all_said _ c.args.pairs.now c.requires.pairs

pub range_of-range-requires-clause-numbers : goal.range_of-range-requires-clause-numbers
range_of-range-requires-clause-numbers c =
    c.pairs_at-numbers.ensures ∙ c.requires.by_clock c.in-Some.clock (next_within _ (moves_in c.as_slice-placed.result.now) c.args.pairs.now c.args.number c.in-Some.clock c.requires.pairs (sym c.in-Some.ensures))

pub move_in-by-requires : goal.move_in-by-requires
move_in-by-requires c =
    let within = subst (AreMovesWithin (2 ^ 99)) (sym c.as_slice-placed.ensures.value) c.requires.moves in
    subst (IsRangeWithin (2 ^ 100)) (sym c.range_of-range.ensures)
    (range_more (2 ^ 99 + 2 ^ 64) (2 ^ 100) (range_of (moves_in c.as_slice-placed.result.now) c.in-Some.clock c.args.pairs.now) (omega arith)
    (range_within (2 ^ 99) (moves_in c.as_slice-placed.result.now) c.in-Some.clock c.args.pairs.now (moves_at (2 ^ 99) c.as_slice-placed.result.now within) (all_said _ c.args.pairs.now c.requires.pairs)))

pub returns : goal.returns
returns c =
    let numbers = c.pairs_at-numbers.ensures ∙ c.requires.by_clock c.in-Some.clock (next_within _ (moves_in c.as_slice-placed.result.now) c.args.pairs.now c.args.number c.in-Some.clock c.requires.pairs (sym c.in-Some.ensures)) in
    let by : c.move_in-by.result ≡ move_in (range_of (moves_in c.args.moves.now.items) c.in-Some.clock c.args.pairs.now) =
    c.move_in-by.ensures ∙ ap move_in (c.range_of-range.ensures ∙ ap (λ those. range_of (moves_in those) c.in-Some.clock c.args.pairs.now) c.as_slice-placed.ensures.value) in
    let same : to_z w128 (of_z w128 c.move_in-by.result) ≡ c.move_in-by.result = search rules in
    placed_at c.args.pairs.now c.args.number c.args.moves.now.items (heap_items c.args.coming.now) c.place_clock.new.moves.items (heap_items c.place_clock.new.coming) (Some c.in-Some.clock)
    (sym (c.in-Some.ensures ∙ ap (λ those. next_clock (moves_in those) c.args.pairs.now c.args.number) c.as_slice-placed.ensures.value))
    (c.in_ok-place_clock.ensures.moves ∙ ap (λ b. set c.args.moves.now.items c.in-Some.clock (Some b)) (same ∙ by), subst (λ those. HaveJoined those (heap_items c.args.coming.now) (heap_items c.place_clock.new.coming)) numbers c.in_ok-place_clock.ensures.coming)
