-- What stands at a place of a list, after a write and after a push.
use Rattle.std.proofs.Common.{◌≡◌, ℕ, suc, zero, inl, inr, ◌<◌, List, [], ◌∷◌, ◌++◌, cond, eqb, length, set, Some, refl, sym, ap, ◌∙◌, arith}
use Rattle.std.specs.Prelude.{◌⊎◌, slice_get, unwrap_or}
use Rattle.std.proofs.lemmas.Bool.{cases_eq, cond-false, cond-true, eq-eqb, ne_eqb}
use Rattle.std.proofs.lemmas.Grind.{get_or-set_at}
use Rattle.std.proofs.lemmas.List.{get_or-set_other}
use Rattle.std.proofs.lemmas.Option.{none-some, same_Some, unwrap_or-slice_get}

pub slice_get-set : {X : Type 0} (xs : List X) (i k : ℕ) (y z : X) → slice_get (set xs i y) k ≡ Some z → ((k ≡ i) × (y ≡ z)) ⊎ ((k ≡ i → ⊥) × (slice_get xs k ≡ Some z))
slice_get-set [] i k y z h = absurd (none-some z h)
slice_get-set (x ∷ xs) zero zero y z h = inl (refl, same_Some y z h)
slice_get-set (x ∷ xs) zero (suc k) y z h = inr (λ e. omega arith, h)
slice_get-set (x ∷ xs) (suc i) zero y z h = inr (λ e. omega arith, h)
slice_get-set (x ∷ xs) (suc i) (suc k) y z h = elim (slice_get-set xs i k y z h) [ inl p ↦ inl (ap suc p.0, p.1) | inr q ↦ inr (λ e. q.0 (omega arith), q.1) ]

pub slice_get_push : {X : Type 0} (xs : List X) (x : X) (k : ℕ) (y : X) → slice_get (xs ++ x ∷ []) k ≡ Some y → (slice_get xs k ≡ Some y) ⊎ ((k ≡ length xs) × (y ≡ x))
slice_get_push [] x zero y h = inr (refl, sym (same_Some x y h))
slice_get_push [] x (suc k) y h = absurd (none-some y h)
slice_get_push (z ∷ zs) x zero y h = inl h
slice_get_push (z ∷ zs) x (suc k) y h = elim (slice_get_push zs x k y h) [ inl p ↦ inl p | inr q ↦ inr (ap suc q.0, q.1) ]

-- the value at a place after a write
pub value-set : {X : Type 0} (xs : List X) (i : ℕ) (y d : X) → i < length xs → (k : ℕ) → unwrap_or (slice_get (set xs i y) k) d ≡ cond (eqb k i) y (unwrap_or (slice_get xs k) d)
value-set xs i y d lt k = elim (cases_eq k i) [
  | inl e ↦ unwrap_or-slice_get (set xs i y) k d ∙ get_or-set_at xs i k y d e lt ∙ sym (cond-true (eqb k i) y (unwrap_or (slice_get xs k) d) (eq-eqb k i e))
  | inr ne ↦ unwrap_or-slice_get (set xs i y) k d ∙ get_or-set_other xs i k y d ne ∙ sym (unwrap_or-slice_get xs k d) ∙ sym (cond-false (eqb k i) y (unwrap_or (slice_get xs k) d) (ne_eqb k i ne))
]

pub value_other : {X : Type 0} (xs : List X) (i : ℕ) (y d : X) (k : ℕ) → (k ≡ i → ⊥) → unwrap_or (slice_get (set xs i y) k) d ≡ unwrap_or (slice_get xs k) d
value_other xs i y d k ne = unwrap_or-slice_get (set xs i y) k d ∙ get_or-set_other xs i k y d ne ∙ sym (unwrap_or-slice_get xs k d)

-- a list has its elements
pub slice_get_front : {X : Type 0} (xs ys : List X) (k : ℕ) → k < length xs → slice_get (xs ++ ys) k ≡ slice_get xs k
slice_get_front [] ys k lt = absurd (omega arith)
slice_get_front (x ∷ xs) ys zero lt = refl
slice_get_front (x ∷ xs) ys (suc k) lt = slice_get_front xs ys k (omega arith)

pub slice_get_last : {X : Type 0} (xs : List X) (x : X) (k : ℕ) → k ≡ length xs → slice_get (xs ++ x ∷ []) k ≡ Some x
slice_get_last [] x zero e = refl
slice_get_last [] x (suc k) e = absurd (omega arith)
slice_get_last (y ∷ ys) x zero e = absurd (omega arith)
slice_get_last (y ∷ ys) x (suc k) e = slice_get_last ys x k (omega arith)

pub slice_get_there : {X : Type 0} (xs : List X) (k : ℕ) → k < length xs → (x : X) × (slice_get xs k ≡ Some x)
slice_get_there [] k lt = absurd (omega arith)
slice_get_there (x ∷ xs) zero lt = (x, refl)
slice_get_there (x ∷ xs) (suc k) lt = slice_get_there xs k (omega arith)

pub slice_get-set_here : {X : Type 0} (xs : List X) (k : ℕ) (y : X) → k < length xs → slice_get (set xs k y) k ≡ Some y
slice_get-set_here [] k y lt = absurd (omega arith)
slice_get-set_here (x ∷ xs) zero y lt = refl
slice_get-set_here (x ∷ xs) (suc k) y lt = slice_get-set_here xs k y (omega arith)

pub slice_get-set_there : {X : Type 0} (xs : List X) (i k : ℕ) (y : X) → (k ≡ i → ⊥) → slice_get (set xs i y) k ≡ slice_get xs k
slice_get-set_there [] i k y ne = refl
slice_get-set_there (x ∷ xs) zero zero y ne = absurd (ne refl)
slice_get-set_there (x ∷ xs) zero (suc k) y ne = refl
slice_get-set_there (x ∷ xs) (suc i) zero y ne = refl
slice_get-set_there (x ∷ xs) (suc i) (suc k) y ne = slice_get-set_there xs i k y (λ e. ne (ap suc e))
