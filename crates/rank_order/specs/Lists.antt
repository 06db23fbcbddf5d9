-- Lists of places.
use Rattle.std.specs.Prelude.{ℕ, ◌<◌, ◌≡◌, Bool, true, nat_eq, List, [], ◌∷◌}
use Rattle.std.specs.List.{list_any}

abbrev pub is_among : ℕ → List ℕ → Bool
is_among place places = list_any (nat_eq place) places

-- each element stands in this relation to all that follow it
abbrev pub Ascends : (ℕ → ℕ → Type 0) → List ℕ → Type 0
Ascends IsBelow [] = Unit {0}
Ascends IsBelow (x ∷ xs) = ((y : ℕ) → is_among y xs ≡ true → IsBelow x y) × Ascends IsBelow xs

abbrev pub IsAscending : List ℕ → Type 0
IsAscending xs = Ascends (λ x y. x < y) xs
