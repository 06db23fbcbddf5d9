use Rattle.std.proofs.Common.{◌≡◌, ℕ, ◌<◌, List, ◌++◌, map, length, inl, ap, sym, ◌∙◌, subst, rules, arith}
use Rattle.std.specs.Prelude.{AllPairs, IsPermutation}
use Rattle.std.proofs.lemmas.List.Kept.{AllPairs-from_increasing}
use Rattle.std.proofs.lemmas.List.Sorted.{IsNonDecreasingBy-from_sort}
use Rattle.rank_order.specs.Marks.{is_marked, place_of, IsLevel}
use Rattle.rank_order.proofs.Places.{ascends}
use Rattle.rank_order.proofs.MarkHeaps.{some_level, whole_level}
use Rattle.rank_order.proofs.Marking.{IsTaking, taking_more, stays}
use Rattle.rank_order.proofs.marks.Marks.take_level.Goals as goal

pub loop-place-preserved : goal.loop-place-preserved
loop-place-preserved c =
    let inv = c.loop-place.invariant in
    let out = c.in-Some-pop_at.ensures.some in
    let was = c.args.self.now in
    let old = c.loop-place.self in
    let new = c.pop_at.new.self in
    let rank = c.in-Some.rank in
    let place = c.in-Some-pop_at.place in
    record {
      taking = λ ranks are.
          subst (IsTaking ranks was new rank) (sym c.in-Ok.ensures.items)
          (taking_more ranks was old new rank place c.loop-place.level.items (inv.taking ranks are) out);
      left = λ other_rank other has. inv.left other_rank other (stays old new rank place out other_rank other has);
      from = λ other_rank other has. inv.from other_rank other (stays old new rank place out other_rank other has);
      some = inl (omega (arith, c.in-Ok.ensures.len));
      room = omega (arith, inv.room, out.fewer, c.push.ensures.capacity, c.in-Ok.ensures.len);
    }

-- the places of all marks, in the order of the heap
places : (c : goal.After-sort_unstable) → c.take_all.new.level.items ≡ map place_of c.args.self.now
places c = c.take_all.ensures.places ∙ ap (λ (items : List ℕ). items ++ map place_of c.args.self.now) (c.in_ok-reserve.ensures.items ∙ c.clear.ensures.items)

moved : (c : goal.After-sort_unstable) → IsPermutation (map place_of c.args.self.now) c.sort_unstable.new.self.items
moved c = subst (λ items. IsPermutation items c.sort_unstable.new.self.items) (places c) c.sort_unstable.ensures.permutation

pub returns-then-have_rank-clause-some : goal.returns-then-have_rank-clause-some
returns-then-have_rank-clause-some c = λ some.
    let more : 0 < length c.sort_unstable.new.self.items =
    some_level c.args.self.now c.in-Some.rank c.sort_unstable.new.self.items (c.have_rank.ensures c.if-have_rank.true) (moved c) c.in-Some.ensures.some in
    search rules

pub returns-then-have_rank-clause-level : goal.returns-then-have_rank-clause-level
returns-then-have_rank-clause-level c = λ ranks are.
    let rises : AllPairs (λ one other. one < other) c.sort_unstable.new.self.items =
    AllPairs-from_increasing c.sort_unstable.new.self.items (ascends (map place_of c.args.self.now) c.sort_unstable.new.self.items (moved c) (IsNonDecreasingBy-from_sort (λ (x : ℕ). x) c.sort_unstable.new.self.items c.sort_unstable.ensures.sorted) c.take_all.ensures.once) in
    subst (λ (marks : List (ℕ × ℕ)). IsLevel ranks (is_marked ranks c.args.self.now) c.sort_unstable.new.self.items (is_marked ranks marks)) (sym c.take_all.ensures.none)
    (whole_level c.args.self.now c.in-Some.rank c.sort_unstable.new.self.items (c.have_rank.ensures c.if-have_rank.true) (moved c) rises ranks are)
