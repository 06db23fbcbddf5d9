use Rattle.std.proofs.Common.{◌≡◌, ◌⊎◌, inl, inr, ℕ, false, List, ◌∙◌, ap, sym, subst, heap_items}
use Rattle.std.proofs.lemmas.Bool.{true≢false}
use Rattle.std.specs.declared.cmp.Reverse.{Reverse}
use Rattle.rank_order.specs.declared.marks.Mark.{Mark}
use Rattle.rank_order.specs.Lists.{is_among}
use Rattle.rank_order.specs.Marks.{has_place}
use Rattle.rank_order.specs.MarkHeaps.{marks_in, places_in, IsMarkedAs}
use Rattle.rank_order.proofs.MarkHeaps.{mark_place, pushed, stored_more}
use Rattle.rank_order.proofs.marks.Marks.push.Goals as goal

pub invariant_of-self-2 : goal.invariant_of-self-2
invariant_of-self-2 c =
    let put : Reverse Mark = record { 0 = c.args.mark } in
    let fresh : is_among c.args.mark.place (places_in (heap_items c.self.inside.heap)) ≡ false =
    ap (λ (marks : List (ℕ × ℕ)). has_place marks c.args.mark.place) (c.self.view_is ∙ c.know_places.ensures) ∙ c.requires in
    stored_more (heap_items c.self.inside.heap) (heap_items c.push.new.self) put c.reserve_place.new.places c.insert_place.new.places (c.reserve_place.ensures.stored (heap_items c.self.inside.heap) c.self.invariant) fresh
    c.in_ok-push.ensures.permutation (c.in_ok-push.ensures.heap_order c.self.invariant.order) (c.insert_place.ensures (heap_items c.self.inside.heap))

pub returns-clause-ranked : goal.returns-clause-ranked
returns-clause-ranked c =
    let put : Reverse Mark = record { 0 = c.args.mark } in
    subst (λ (marks : List (ℕ × ℕ)). IsMarkedAs marks (marks_in (heap_items c.push.new.self)) c.args.mark.rank c.args.mark.place) (c.self.view_is ∙ c.know_places.ensures)
    (pushed (heap_items c.self.inside.heap) (heap_items c.push.new.self) put c.in_ok-push.ensures.permutation)

pub returns-clause-alone : goal.returns-clause-alone
returns-clause-alone c = λ other_rank has.
    let put : Reverse Mark = record { 0 = c.args.mark } in
    let told : IsMarkedAs c.args.self.now (marks_in (heap_items c.push.new.self)) c.args.mark.rank c.args.mark.place =
    subst (λ (marks : List (ℕ × ℕ)). IsMarkedAs marks (marks_in (heap_items c.push.new.self)) c.args.mark.rank c.args.mark.place) (c.self.view_is ∙ c.know_places.ensures)
    (pushed (heap_items c.self.inside.heap) (heap_items c.push.new.self) put c.in_ok-push.ensures.permutation) in
    elim (told.ranks other_rank has) [ inl same ↦ same | inr was ↦ absurd (true≢false (sym (mark_place c.args.self.now other_rank c.args.mark.place was) ∙ c.requires)) ]
