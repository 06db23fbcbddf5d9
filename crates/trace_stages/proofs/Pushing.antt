-- One more holding.
use Rattle.std.proofs.Common.{◌≡◌, ℕ, suc, zero, subst, List, [], ◌∷◌, ◌++◌, Some, length, inl, inr, refl, sym, ap, ◌∙◌}
use Rattle.std.specs.Prelude.{◌⊎◌, slice_get}
use Rattle.std.proofs.lemmas.Option.{none-some, same_Some}
use Rattle.trace_relations.specs.declared.moment.Interval.{Interval}
use Rattle.trace_relations.specs.Moments.{interval_at}
use Rattle.trace_stages.specs.declared.walk.called.Called.{Called}
use Rattle.trace_stages.specs.declared.walk.event.Event.{Event}
use Rattle.trace_stages.specs.Called.{called}
use Rattle.trace_stages.specs.Events.{events_of}
use Rattle.trace_stages.specs.Held.{PlainHolding}
use Rattle.trace_stages.specs.Holdings.{AreHeldBy, held, held_by}
use Rattle.trace_stages.specs.Moments.{At}
use Rattle.trace_relations.specs.Relations.{PlainRelations}
use Rattle.trace_stages.specs.declared.walk.holding.Holding.{Holding}
use Rattle.trace_stages.specs.KeptWalk.{Holds}

slice_get_push : {X : Type 0} (xs : List X) (x : X) (k : ℕ) (y : X) → slice_get (xs ++ x ∷ []) k ≡ Some y → (slice_get xs k ≡ Some y) ⊎ ((k ≡ length xs) × (y ≡ x))
slice_get_push [] x zero y h = inr (refl, sym (same_Some x y h))
slice_get_push [] x (suc k) y h = absurd (none-some y h)
slice_get_push (z ∷ zs) x zero y h = inl h
slice_get_push (z ∷ zs) x (suc k) y h = elim (slice_get_push zs x k y h) [ inl p ↦ inl p | inr q ↦ inr (ap suc q.0, q.1) ]

pub none_held : (relations : PlainRelations) (moments : List At) (holdings : List Holding) → holdings ≡ [] → AreHeldBy relations moments holdings
none_held relations moments holdings e = λ span holding h. absurd (none-some holding (sym (ap (λ all. slice_get all span) e) ∙ h))

pub one_more_held : (relations : PlainRelations) (moments : List At) (holdings all : List Holding) (holding : Holding) (k : ℕ) → length holdings ≡ k → AreHeldBy relations moments holdings → Holds holding (held relations moments k) → all ≡ holdings ++ holding ∷ [] → AreHeldBy relations moments all
one_more_held relations moments holdings all holding k count are next is = λ span other h. elim (slice_get_push holdings holding span other (sym (ap (λ those. slice_get those span) is) ∙ h)) [
  | inl p ↦ are span other p
  | inr q ↦ rw (q.0 ∙ count, q.1) next
]

-- what the code passed on is what the definition names
pub held_as : (relations : PlainRelations) (moments : List At) (span count : ℕ) (interval : Interval) (shown seen : List At) (events : List Event) (calls : List Called) (holding : Holding) → interval ≡ interval_at relations.intervals span → count ≡ length relations.intervals → shown ≡ moments → events ≡ events_of count relations shown span → seen ≡ moments → calls ≡ called relations seen span → Holds holding (held_by interval span events calls) → Holds holding (held relations moments span)
held_as relations moments span count interval shown seen events calls holding is n are happen are_seen are_calls holds =
    let P : PlainHolding → Type 0 = λ plain. Holds holding plain in
    subst P
    (ap (λ those. held_by those span events calls) is
    ∙ ap (λ those. held_by (interval_at relations.intervals span) span those calls)
    (happen ∙ ap (λ k. events_of k relations shown span) n ∙ ap (λ those. events_of (length relations.intervals) relations those span) are)
    ∙ ap (λ those. held_by (interval_at relations.intervals span) span (events_of (length relations.intervals) relations moments span) those)
    (are_calls ∙ ap (λ those. called relations those span) are_seen))
    holds
