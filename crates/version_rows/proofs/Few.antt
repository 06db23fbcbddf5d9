-- No more than were taken.
use Rattle.std.proofs.Common.{◌≡◌, ℕ, ◌≤◌, List, ap, arith, length, map, take}
use Rattle.std.specs.Prelude.{IsPermutation}
use Rattle.std.proofs.lemmas.List.Sorted.{length_permutation}
use Rattle.std.proofs.lemmas.List.{length-map, length-take}

pub at_most : {X : Type 0} (most : ℕ) (all first other : List X) → first ≡ take most all → IsPermutation first other → length other ≤ most
at_most most all first other taken same =
    let as_many = length_permutation first other same in
    let count = ap length taken in
    let few = length-take most all in
    omega (arith, as_many, count, few)

-- as many as those that they are made of
pub as_few : {A B C : Type 0} (most : ℕ) (f : A → C) (g : B → C) (rows : List A) (some chosen : List B) → map f rows ≡ map g some → some ≡ chosen → length chosen ≤ most → length rows ≤ most
as_few most f g rows some chosen are same few =
    let of_rows = length-map rows f in
    let of_some = length-map some g in
    let count = ap length are in
    let these = ap length same in
    omega (arith, of_rows, of_some, count, these, few)
