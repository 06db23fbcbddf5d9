use Rattle.std.proofs.Common.{◌≡◌, ◌∙◌, ap, arith, length, sym}
use Rattle.std.proofs.lemmas.Bool.Decides.{nat_tests}
use Rattle.trace_relations.specs.KeptMoves.{moves_in}
use Rattle.trace_relations.proofs.Clocked.{moved_by_moves, none_moved, none_moved_so, times_by_moves}
use Rattle.trace_relations.proofs.Finding.{no_items}
use Rattle.trace_relations.proofs.placing.placed_times.Goals as goal

pub returns-then-is_empty-clause-times : goal.returns-then-is_empty-clause-times
returns-then-is_empty-clause-times c =
    let none : length c.in_ok-pairs.pairs.items ≡ 0 = grind (arith, nat_tests) in
    let empty = no_items c.in_ok-pairs.pairs.items none in
    none_moved c.args.spans.now c.in_ok-times_as_told.field-0.items (sym empty ∙ c.in_ok-pairs.ensures.said) c.in_ok-times_as_told.ensures

pub returns-then-is_empty-clause-moved : goal.returns-then-is_empty-clause-moved
returns-then-is_empty-clause-moved c =
    let none : length c.in_ok-pairs.pairs.items ≡ 0 = grind (arith, nat_tests) in
    let empty = no_items c.in_ok-pairs.pairs.items none in
    none_moved_so c.args.spans.now c.new.result.items (sym empty ∙ c.in_ok-pairs.ensures.said) c.new.ensures.items

pub returns-clause-times : goal.returns-clause-times
returns-clause-times c =
    times_by_moves c.args.spans.now c.deref-7.result.now c.in_ok-all_times.field-0.items (λ clock. ap (λ those. moves_in those clock) c.deref-7.ensures.value ∙ c.in_ok-moves.ensures.placed clock) c.in_ok-all_times.ensures

pub returns-clause-moved : goal.returns-clause-moved
returns-clause-moved c =
    moved_by_moves c.args.spans.now c.deref-5.result.now c.in_ok-all_moved.field-0.items (λ clock. ap (λ those. moves_in those clock) c.deref-5.ensures.value ∙ c.in_ok-moves.ensures.placed clock)
    (c.in_ok-all_moved.ensures c.args.spans.now (c.deref-4.ensures.value ∙ c.in_ok-clocks.ensures))
