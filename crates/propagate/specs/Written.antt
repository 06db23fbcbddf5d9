-- A list with other items written at some places.
use Rattle.std.specs.Prelude.{ℕ, List, [], ◌∷◌, slice_set, Option, Some, None}

-- the list with each other item at its place, one after the other; a place with no other item stays as it is
abbrev pub written : {A : Type 0} → List A → List ℕ → List (Option A) → List A
written xs [] others = xs
written xs (place ∷ places) [] = xs
written xs (place ∷ places) (None ∷ others) = written xs places others
written xs (place ∷ places) (Some x ∷ others) = written (slice_set xs place x) places others
