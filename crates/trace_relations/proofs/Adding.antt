-- One more of what stands at a place.
use Rattle.std.proofs.Common.{◌≡◌, ℕ, ◌+◌, ◌<◌, inl, inr, List, [], ◌∷◌, ◌++◌, cond, eqb, get_or, length, set, Some, sym, ap, ◌∙◌, subst}
use Rattle.std.specs.Prelude.{All, Vec, slice_get}
use Rattle.std.specs.declared.alloc.Global.{Global}
use Rattle.std.proofs.lemmas.Bool.{cases_eq, cond-false, cond-true, eq-eqb, ne_eqb}
use Rattle.std.proofs.lemmas.List.Elements.{All-get_or, All-set}
use Rattle.std.proofs.lemmas.Option.{slice_get-get_or}
use Rattle.trace_relations.specs.declared.call_groups.Group.{Group}
use Rattle.trace_relations.specs.Groupings.{IsFreeGroup, calls_at, calls_in}
use Rattle.trace_relations.specs.KeptMoves.{numbers_at, numbers_in}
use Rattle.trace_relations.proofs.Gets.{slice_get-set_here, slice_get-set_there}

-- a number more of a clock
pub number_added : (all new : List (Vec ℕ Global)) (clock number : ℕ) (before after : Vec ℕ Global) → clock < length all → before ≡ get_or all clock before → after.items ≡ before.items ++ number ∷ [] → new ≡ set all clock after
    → (other : ℕ) → numbers_at new other ≡ cond (eqb other clock) (numbers_at all other ++ number ∷ []) (numbers_at all other)
number_added all new clock number before after lt is now new_is other = ap (λ those. numbers_at those other) new_is ∙ elim (cases_eq other clock) [
  | inl same ↦
      let here : slice_get all other ≡ Some before = ap (slice_get all) same ∙ slice_get-get_or all clock before lt ∙ ap Some (sym is) in
      ap (λ k. numbers_at (set all clock after) k) same ∙ ap numbers_in (slice_get-set_here all clock after lt) ∙ now
      ∙ ap (λ those. those ++ number ∷ []) (sym (ap numbers_in here))
      ∙ sym (cond-true (eqb other clock) (numbers_at all other ++ number ∷ []) (numbers_at all other) (eq-eqb other clock same))
  | inr apart ↦ ap numbers_in (slice_get-set_there all clock other after apart) ∙ sym (cond-false (eqb other clock) (numbers_at all other ++ number ∷ []) (numbers_at all other) (ne_eqb other clock apart))
]

-- a call more of a group
pub call_added : (groups new : List Group) (number call : ℕ) (before after : Group) → number < length groups → before ≡ get_or groups number before → after.calls.items ≡ before.calls.items ++ call ∷ [] → new ≡ set groups number after
    → (other : ℕ) → calls_at new other ≡ cond (eqb other number) (calls_at groups other ++ call ∷ []) (calls_at groups other)
call_added groups new number call before after lt is now new_is other = ap (λ those. calls_at those other) new_is ∙ elim (cases_eq other number) [
  | inl same ↦
      let here : slice_get groups other ≡ Some before = ap (slice_get groups) same ∙ slice_get-get_or groups number before lt ∙ ap Some (sym is) in
      ap (λ k. calls_at (set groups number after) k) same ∙ ap calls_in (slice_get-set_here groups number after lt) ∙ now
      ∙ ap (λ those. those ++ call ∷ []) (sym (ap calls_in here))
      ∙ sym (cond-true (eqb other number) (calls_at groups other ++ call ∷ []) (calls_at groups other) (eq-eqb other number same))
  | inr apart ↦ ap calls_in (slice_get-set_there groups number other after apart) ∙ sym (cond-false (eqb other number) (calls_at groups other ++ call ∷ []) (calls_at groups other) (ne_eqb other number apart))
]

pub free_added : (groups new : List Group) (number : ℕ) (before after : Group) → number < length groups → before ≡ get_or groups number before → (IsFreeGroup before → IsFreeGroup after) → new ≡ set groups number after → All IsFreeGroup groups → All IsFreeGroup new
free_added groups new number before after lt is keeps new_is all =
    subst (All IsFreeGroup) (sym new_is) (All-set IsFreeGroup groups number after (keeps (subst IsFreeGroup (sym is) (All-get_or IsFreeGroup groups number before lt all))) all)
