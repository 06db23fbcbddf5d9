use Rattle.std.proofs.Common.{ℕ, ◌<◌, List, length, heap_items, subst, rules}
use Rattle.rank_order.specs.Marks.{IsLeastRank}
use Rattle.rank_order.proofs.MarkHeaps.{least_is}
use Rattle.rank_order.proofs.marks.Marks.least_rank.Goals as goal

pub returns-clause-some : goal.returns-clause-some
returns-clause-some c =
    let items = heap_items c.self.inside.heap in
    let first = c.in_ok-first.first.now in
    let some : 0 < length items = search rules in
    subst (λ (marks : List (ℕ × ℕ)). IsLeastRank marks (first.0.rank)) c.self.view_is
    (least_is items first some c.in_ok-first.ensures.lookup (c.in_ok-first.ensures.greatest c.self.invariant.order))
