use Rattle.std.proofs.Common.{◌≡◌, ℕ, true, false, List, ◌∙◌, sym, subst, heap_items}
use Rattle.std.specs.Prelude.{IsPermutation}
use Rattle.std.proofs.lemmas.Bool.{true≢false}
use Rattle.rank_order.specs.Lists.{is_among}
use Rattle.rank_order.specs.Marks.{has_mark, has_place, HasRankAlone}
use Rattle.rank_order.specs.MarkHeaps.{places_in}
use Rattle.rank_order.proofs.MarkHeaps.{has_in, one_rank, unchanged, stored_moved}
use Rattle.rank_order.proofs.Places.{distinct_moved}
use Rattle.rank_order.proofs.marks.Marks.set_rank.Goals as goal

pub returns-then-has_mark-clause-ranked : goal.returns-then-has_mark-clause-ranked
returns-then-has_mark-clause-ranked c =
    unchanged c.args.self.now c.args.mark.rank c.args.mark.place
    (subst (λ (marks : List (ℕ × ℕ)). has_mark marks c.args.mark.rank c.args.mark.place ≡ true) c.self.view_is
    (has_in c.args.mark.rank c.args.mark.place (heap_items c.self.inside.heap) ∙ sym c.has_mark.ensures ∙ c.if-has_mark.true))

pub invariant_of-self : goal.invariant_of-self
invariant_of-self c =
    stored_moved (heap_items c.self.inside.heap) (heap_items c.with_rank.result) c.self.inside.places c.self.invariant c.with_rank.ensures.order
    (subst (λ heap. IsPermutation (places_in (heap_items heap)) (places_in (heap_items c.with_rank.result))) c.replace-heap.ensures.value c.with_rank.ensures.places)

pub returns-clause-same : goal.returns-clause-same
returns-clause-same c = λ has.
    let none : has_mark c.args.self.now c.args.mark.rank c.args.mark.place ≡ false =
    subst (λ (marks : List (ℕ × ℕ)). has_mark marks c.args.mark.rank c.args.mark.place ≡ false) c.self.view_is
    (has_in c.args.mark.rank c.args.mark.place (heap_items c.self.inside.heap) ∙ sym c.has_mark.ensures ∙ c.if-has_mark.false) in
    absurd (true≢false (sym has ∙ none))

pub returns-then-has_mark-clause-alone : goal.returns-then-has_mark-clause-alone
returns-then-has_mark-clause-alone c =
    subst (λ (marks : List (ℕ × ℕ)). HasRankAlone marks c.args.mark.rank c.args.mark.place) c.self.view_is
    (λ other_rank also.
    one_rank (heap_items c.self.inside.heap) c.self.invariant.once c.args.mark.rank other_rank c.args.mark.place
    (has_in c.args.mark.rank c.args.mark.place (heap_items c.self.inside.heap) ∙ sym c.has_mark.ensures ∙ c.if-has_mark.true) also)

pub returns-clause-alone : goal.returns-clause-alone
returns-clause-alone c = λ other_rank also.
    let before = heap_items c.self.inside.heap in
    let after = heap_items c.with_rank.result in
    let moved : IsPermutation (places_in before) (places_in after) = subst (λ heap. IsPermutation (places_in (heap_items heap)) (places_in after)) c.replace-heap.ensures.value c.with_rank.ensures.places in
    let there : is_among c.args.mark.place (places_in before) ≡ true = subst (λ (marks : List (ℕ × ℕ)). has_place marks c.args.mark.place ≡ true) (sym c.self.view_is) c.requires in
    let told = c.with_rank.ensures.marked (subst (λ heap. is_among c.args.mark.place (places_in (heap_items heap)) ≡ true) (sym c.replace-heap.ensures.value) there) in
    one_rank after (distinct_moved (places_in before) (places_in after) moved c.self.invariant.once) c.args.mark.rank other_rank c.args.mark.place told.here also
