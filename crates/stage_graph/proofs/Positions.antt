-- The first place at which a test passes.
use Rattle.std.proofs.Common.{Bool, true, false, cond, ◌≡◌, ◌<◌, ◌≤◌, ◌+◌, ℕ, inl, inr, List, [], ◌∷◌, ◌++◌, length, Option, Some, None, is_some, refl, ap, ◌∙◌, get_or, nat_lt, arith}
use Rattle.std.specs.Prelude.{position}
use Rattle.std.specs.List.{position_or_len}
use Rattle.std.proofs.lemmas.Bool.{cases_lt}
use Rattle.std.proofs.lemmas.Grind.{common_steps}
use Rattle.std.proofs.lemmas.List.{get_or_append_left, get_or_push, length-append}
use Rattle.std.proofs.lemmas.List.Sums.{position_or_len_is, fails_before_first}
use Rattle.std.proofs.lemmas.List.Quantifiers.{position-Some}

below : (n count i : ℕ) → n ≡ i → i < count → cond (nat_lt n count) (Some n) None ≡ Some i
below n count i is within = grind (arith, common_steps)

above : (n count : ℕ) → count ≤ n → cond (nat_lt n count) (Some n) None ≡ None
above n count past = grind (arith, common_steps)

from_none : (n count : ℕ) → cond (nat_lt n count) (Some n) None ≡ None → count ≤ n
from_none n count none = grind (arith, common_steps)

module _ {A : Type 0} (p : A → Bool) where
  pub position_is : (xs : List A) (i : ℕ) (d : A) → i < length xs → ((k : ℕ) → k < i → p (get_or xs k d) ≡ false) → p (get_or xs i d) ≡ true → position p xs ≡ Some i
  position_is xs i d within before here = below (position_or_len p xs) (length xs) i (position_or_len_is p xs i d (omega arith) before (λ _. here)) within

  pub position_none : (xs : List A) (d : A) → ((k : ℕ) → k < length xs → p (get_or xs k d) ≡ false) → position p xs ≡ None
  position_none xs d before =
      let end : position_or_len p xs ≡ length xs = position_or_len_is p xs (length xs) d (omega arith) before (λ less. absurd (omega (arith, less))) in
      above (position_or_len p xs) (length xs) (omega (arith, end))

  pub none_before : (xs : List A) (d : A) → position p xs ≡ None → (k : ℕ) → k < length xs → p (get_or xs k d) ≡ false
  none_before xs d none k within = fails_before_first p xs k d (omega (arith, within, from_none (position_or_len p xs) (length xs) none))

  pushed : (xs : List A) (y : A) (found : Option ℕ) (here : Bool) → position p xs ≡ found → p y ≡ here
      → position p (xs ++ y ∷ []) ≡ cond (is_some found) found (cond here (Some (length xs)) None)
  pushed xs y (Some i) here is at =
      let found = position-Some p xs i y is in
      let long = length-append xs (y ∷ []) in
      position_is (xs ++ y ∷ []) i y (omega (arith, long, found.0))
      (λ k short. ap p (get_or_append_left xs (y ∷ []) y k (omega (arith, short, found.0))) ∙ found.2 k short)
      (ap p (get_or_append_left xs (y ∷ []) y i found.0) ∙ found.1)
  pushed xs y None true is at =
      let long = length-append xs (y ∷ []) in
      position_is (xs ++ y ∷ []) (length xs) y (omega (arith, long))
      (λ k short. ap p (get_or_append_left xs (y ∷ []) y k short) ∙ none_before xs y is k short)
      (ap p (get_or_push xs y y (length xs) refl) ∙ at)
  pushed xs y None false is at =
      let long = length-append xs (y ∷ []) in
      position_none (xs ++ y ∷ []) y (λ k short. elim (cases_lt k (length xs)) [
        | inl inside ↦ ap p (get_or_append_left xs (y ∷ []) y k inside) ∙ none_before xs y is k inside
        | inr past ↦ let end : length xs ≡ k = omega (arith, long, short) in ap p (get_or_push xs y y k end) ∙ at
      ])

  pub position_push : (xs : List A) (y : A) → position p (xs ++ y ∷ []) ≡ cond (is_some (position p xs)) (position p xs) (cond (p y) (Some (length xs)) None)
  position_push xs y = pushed xs y (position p xs) (p y) refl refl
