use Rattle.std.proofs.Common.{ℕ, List, heap_items, subst}
use Rattle.rank_order.specs.Marks.{IsPopped}
use Rattle.rank_order.specs.MarkHeaps.{marks_in}
use Rattle.rank_order.proofs.MarkHeaps.{popped, stored_less}
use Rattle.rank_order.proofs.marks.Marks.pop_mark.Goals as goal

pub invariant_of-self-2 : goal.invariant_of-self-2
invariant_of-self-2 c =
    stored_less (heap_items c.self.inside.heap) (heap_items c.pop.new.self) c.in_ok-mark.field-0 c.self.inside.places c.remove_place.new.places c.self.invariant c.in_ok-mark.ensures.permutation
    (c.in_ok-mark.ensures.heap_order c.self.invariant.order).0 (c.remove_place.ensures (heap_items c.self.inside.heap))

pub returns-clause-some : goal.returns-clause-some
returns-clause-some c =
    let old = heap_items c.self.inside.heap in
    let new = heap_items c.pop.new.self in
    let mark = c.in_ok-mark.field-0 in
    subst (λ (marks : List (ℕ × ℕ)). IsPopped marks (marks_in new) (mark.0.rank) (mark.0.place)) c.self.view_is
    (popped old new mark c.in_ok-mark.ensures.permutation c.self.invariant.once (c.in_ok-mark.ensures.heap_order c.self.invariant.order).1)
