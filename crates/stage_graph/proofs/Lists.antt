-- Lists of which one item was set.
use Rattle.std.proofs.Common.{◌≡◌, ◌≢◌, ◌<◌, ℕ, ◌⊎◌, inl, inr, List, length, ap, ◌∙◌, get_or, arith}
use Rattle.std.specs.Prelude.{Contains, slice_index_or, All}
use Rattle.std.proofs.Math.ListN.{set}
use Rattle.std.proofs.lemmas.Bool.{cases_lt}
use Rattle.std.proofs.lemmas.List.{get_or-set_same, get_or-set_other}
use Rattle.std.proofs.lemmas.List.Elements.{Contains-get_or}

-- an item after one was set: that one, or another
pub set_cases : {A : Type 0} (xs : List A) (place other : ℕ) (x d : A) → place < length xs
    → ((other ≡ place) × (get_or (set xs place x) other d ≡ x)) ⊎ ((other ≢ place) × (get_or (set xs place x) other d ≡ get_or xs other d))
set_cases xs place other x d within =
    let apart : (other ≢ place) → get_or (set xs place x) other d ≡ get_or xs other d = λ differ. get_or-set_other xs place other x d differ in
    elim (cases_lt other place) [
      | inl below ↦ let differ : other ≢ place = omega arith in inr (differ, apart differ)
      | inr from ↦ elim (cases_lt place other) [
        | inl above ↦ let differ : other ≢ place = omega arith in inr (differ, apart differ)
        | inr upto ↦
            let same : other ≡ place = omega arith in
            inl (same, ap (λ k. get_or (set xs place x) k d) same ∙ get_or-set_same xs place x d within)
      ]
    ]

-- what holds of each that a list contains holds of all
pub All-contains_each : {X : Type 0} (P : X → Type 0) (xs : List X) → ((x : X) → Contains xs x → P x) → All P xs
All-contains_each P xs each = λ k d short. each (slice_index_or xs k d) (Contains-get_or xs k d short)

-- functions that agree everywhere are equal
pub same_function : {A B : Type 0} {f g : A → B} → ((x : A) → f x ≡ g x) → f ≡ g
same_function h = λ i x. h x i
