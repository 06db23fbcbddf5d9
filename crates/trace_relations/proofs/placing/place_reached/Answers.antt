use Rattle.std.proofs.Common.{◌≡◌, ◌^◌, ◌*◌, arith, heap_items, length, rules}
use Rattle.std.specs.Prelude.{is_some}
use Rattle.std.proofs.lemmas.List.Sums.{count_by-le-length}
use Rattle.trace_relations.specs.KeptMoves.{placed_count}
use Rattle.trace_relations.proofs.Finding.{no_items}
use Rattle.trace_relations.proofs.Moving.{moves_more}
use Rattle.trace_relations.proofs.Reaching.{all_done, leads_first, stepped}
use Rattle.trace_relations.proofs.placing.place_reached.Goals as goal

pub loop-number-init : goal.loop-number-init
loop-number-init c = record { stand = c.requires.stand; leads = leads_first c.args.pairs.now c.args.moves.now.items }

pub loop-number-preserved : goal.loop-number-preserved
loop-number-preserved c =
    let stand = c.loop-number.invariant.stand in
    let step = stepped c.args.pairs.now (length c.args.moves.now.items) c.in-Some.field-0 c.args.moves.now.items c.loop-number.moves.items (heap_items c.loop-number.coming) (heap_items c.pop.new.self) c.place_by.new.moves.items (heap_items c.place_by.new.coming)
    (record { stand = stand; among = c.requires.pairs; moved = c.in-Some.ensures.permutation; heap = (c.in-Some.ensures.heap_order stand.order).0; bound = (c.in-Some.ensures.heap_order stand.order).1 }) c.loop-number.invariant.leads c.in_ok-place_by.ensures in
    record { stand = step.stand; leads = step.leads }

pub loop-number-smaller : goal.loop-number-smaller
loop-number-smaller c =
    let stand = c.loop-number.invariant.stand in
    let step = stepped c.args.pairs.now (length c.args.moves.now.items) c.in-Some.field-0 c.args.moves.now.items c.loop-number.moves.items (heap_items c.loop-number.coming) (heap_items c.pop.new.self) c.place_by.new.moves.items (heap_items c.place_by.new.coming)
    (record { stand = stand; among = c.requires.pairs; moved = c.in-Some.ensures.permutation; heap = (c.in-Some.ensures.heap_order stand.order).0; bound = (c.in-Some.ensures.heap_order stand.order).1 }) c.loop-number.invariant.leads c.in_ok-place_by.ensures in
    step.less

pub place_by-requires-clause-moves : goal.place_by-requires-clause-moves
place_by-requires-clause-moves c =
    let few = count_by-le-length is_some c.loop-number.moves.items in
    let long : length c.loop-number.moves.items ≡ length c.args.moves.now.items = c.loop-number.invariant.stand.long in
    moves_more (placed_count c.loop-number.moves.items * 2 ^ 64) (2 ^ 99) c.loop-number.moves.items (omega (arith, c.requires.count)) c.loop-number.invariant.stand.within

pub returns-clause-placed : goal.returns-clause-placed
returns-clause-placed c = λ n enough.
    let none : length (heap_items c.loop-number.coming) ≡ 0 = search rules in
    all_done c.args.pairs.now (length c.args.moves.now.items) c.args.moves.now.items c.loop-number.moves.items (heap_items c.loop-number.coming) c.loop-number.invariant.stand (no_items (heap_items c.loop-number.coming) none) c.loop-number.invariant.leads n enough

pub returns-clause-within : goal.returns-clause-within
returns-clause-within c =
    let few = count_by-le-length is_some c.loop-number.moves.items in
    let long : length c.loop-number.moves.items ≡ length c.args.moves.now.items = c.loop-number.invariant.stand.long in
    moves_more (placed_count c.loop-number.moves.items * 2 ^ 64) (2 ^ 80) c.loop-number.moves.items (omega (arith, c.requires.count)) c.loop-number.invariant.stand.within
