-- The places of spans by their starts: each place once.
use Rattle.std.proofs.Common.{◌≡◌, ℕ, suc, ◌+◌, ◌<◌, ◌≤◌, List, [], ◌∷◌, Bool, true, false, cond, length, map, refl, sym, ap, ◌∙◌, inl, inr, subst, arith}
use Rattle.std.specs.Prelude.{◌||◌, nat_eq, IsPermutation}
use Rattle.std.specs.List.{list_any, sum_by}
use Rattle.std.proofs.lemmas.Bool.{true≢false}
use Rattle.std.proofs.lemmas.Bool.Decides.{nat_tests}
use Rattle.std.proofs.lemmas.List.Sorted.{IsPermutation-map, length_permutation, list_any-IsPermutation, sum_by-IsPermutation}
use Rattle.std.proofs.lemmas.List.Sums.{sum_by-cons}
use Rattle.trace_relations.specs.declared.moment.Interval.{Interval}
use Rattle.trace_relations.specs.ByStart.{AreByStart, all_starts, starts_from}
use Rattle.trace_laws.proofs.Members.{AreDistinct, IsIn}

-- numbers in a row
abbrev numbers : ℕ → List Interval → List ℕ
numbers place [] = []
numbers place (interval ∷ intervals) = place ∷ numbers (place + 1) intervals

places_numbered : (place : ℕ) (intervals : List Interval) → map (λ start. start.1) (starts_from place intervals) ≡ numbers place intervals
places_numbered place [] = refl
places_numbered place (interval ∷ intervals) = ap (λ l. place ∷ l) (places_numbered (place + 1) intervals)

abbrev is : ℕ → ℕ → ℕ
is q x = cond (nat_eq q x) 1 0

abbrev count : ℕ → List ℕ → ℕ
count q xs = sum_by (is q) xs

is_low : (b : Bool) → cond b 1 0 ≤ 1
is_low true = omega arith
is_low false = omega arith

-- a number below the first comes not at all, and each other once
absent_numbers : (q place : ℕ) (intervals : List Interval) → q < place → count q (numbers place intervals) ≡ 0
absent_numbers q place [] low = refl
absent_numbers q place (interval ∷ intervals) low =
    let here : is q place ≡ 0 = grind (arith, nat_tests) in
    let rest = absent_numbers q (place + 1) intervals (omega arith) in
    sum_by-cons (is q) place (numbers (place + 1) intervals) ∙ omega (arith, here, rest)

once_with : (b : Bool) (q place : ℕ) (intervals : List Interval) → nat_eq q place ≡ b → count q (numbers (place + 1) intervals) ≤ 1 → cond b 1 0 + count q (numbers (place + 1) intervals) ≤ 1
once_with true q place intervals e rest =
    let low : q < place + 1 = grind (arith, nat_tests) in
    let none = absent_numbers q (place + 1) intervals low in
    omega (arith, none)
once_with false q place intervals e rest = omega (arith, rest)

once_numbers : (q place : ℕ) (intervals : List Interval) → count q (numbers place intervals) ≤ 1
once_numbers q place [] = omega arith
once_numbers q place (interval ∷ intervals) =
    let one = once_with (nat_eq q place) q place intervals refl (once_numbers q (place + 1) intervals) in
    omega (arith, one, sum_by-cons (is q) place (numbers (place + 1) intervals))

any_number : (q place : ℕ) (intervals : List Interval) → place ≤ q → q < place + length intervals → list_any (nat_eq q) (numbers place intervals) ≡ true
any_number q place [] low high = absurd (omega arith)
any_number q place (interval ∷ intervals) low high = by (nat_eq q place) refl (λ more. any_number q (place + 1) intervals more (omega arith))
  where
    by : (b : Bool) → nat_eq q place ≡ b → (place + 1 ≤ q → list_any (nat_eq q) (numbers (place + 1) intervals) ≡ true) → list_any (nat_eq q) (numbers place (interval ∷ intervals)) ≡ true
    by true e more = ap (λ b. b || list_any (nat_eq q) (numbers (place + 1) intervals)) e
    by false e more = ap (λ b. b || list_any (nat_eq q) (numbers (place + 1) intervals)) e ∙ more (grind (arith, nat_tests))

number_below : (q place : ℕ) (intervals : List Interval) → list_any (nat_eq q) (numbers place intervals) ≡ true → q < place + length intervals
number_below q place [] h = absurd (true≢false (sym h))
number_below q place (interval ∷ intervals) h = by (nat_eq q place) refl h (λ more. number_below q (place + 1) intervals more)
  where
    by : (b : Bool) → nat_eq q place ≡ b → (b || list_any (nat_eq q) (numbers (place + 1) intervals)) ≡ true → (list_any (nat_eq q) (numbers (place + 1) intervals) ≡ true → q < place + 1 + length intervals) → q < place + suc (length intervals)
    by true e any more = let same : q ≡ place = grind (arith, nat_tests) in omega arith
    by false e any more = omega (arith, more any)

-- ---- a list in which each comes once at most

in_counts : (q : ℕ) (xs : List ℕ) → IsIn q xs → 1 ≤ count q xs
in_counts q [] h = absurd h
in_counts q (x ∷ xs) h = elim h [
  | inl e ↦ (let here : is q x ≡ 1 = grind (arith, nat_tests) in omega (arith, here, sum_by-cons (is q) x xs))
  | inr t ↦ omega (arith, in_counts q xs t, sum_by-cons (is q) x xs)
]

distinct_once : (xs : List ℕ) → ((q : ℕ) → count q xs ≤ 1) → AreDistinct xs
distinct_once [] once = tt
distinct_once (x ∷ xs) once = (
  λ h.
      let here : is x x ≡ 1 = grind (arith, nat_tests) in
      omega (arith, here, in_counts x xs h, once x, sum_by-cons (is x) x xs),
  distinct_once xs (λ q. omega (arith, once q, sum_by-cons (is q) x xs)),
)

any_in : (q : ℕ) (xs : List ℕ) → list_any (nat_eq q) xs ≡ true → IsIn q xs
any_in q [] h = absurd (true≢false (sym h))
any_in q (x ∷ xs) h = by (nat_eq q x) refl (any_in q xs) h
  where
    by : (b : Bool) → nat_eq q x ≡ b → (list_any (nat_eq q) xs ≡ true → IsIn q xs) → (b || list_any (nat_eq q) xs) ≡ true → IsIn q (x ∷ xs)
    by true e more any = inl (grind (arith, nat_tests))
    by false e more any = inr (more any)

or_true : (b : Bool) → (b || true) ≡ true
or_true true = refl
or_true false = refl

self_is : (q : ℕ) → nat_eq q q ≡ true
self_is q = grind (arith, nat_tests)

in_any : (q : ℕ) (xs : List ℕ) → IsIn q xs → list_any (nat_eq q) xs ≡ true
in_any q [] h = absurd h
in_any q (x ∷ xs) h = elim h [
  | inl e ↦ ap (λ b. b || list_any (nat_eq q) xs) (ap (nat_eq q) (sym e) ∙ self_is q)
  | inr t ↦ ap (λ b. nat_eq q x || b) (in_any q xs t) ∙ or_true (nat_eq q x)
]

-- ---- the places

module _ (intervals : List Interval) (places : List ℕ) (by_start : AreByStart intervals places) where
  moved : IsPermutation (numbers 0 intervals) places
  moved =
      let one = IsPermutation-map (λ (start : ℕ × ℕ). start.1) (all_starts intervals) by_start.0 (let sorted = by_start.1 in sorted.0) in
      subst (λ (l : List ℕ). IsPermutation (numbers 0 intervals) l) (sym by_start.2) (subst (λ (l : List ℕ). IsPermutation l (map (λ start. start.1) by_start.0)) (places_numbered 0 intervals) one)

  pub places_distinct : AreDistinct places
  places_distinct = distinct_once places (λ q. omega (arith, once_numbers q 0 intervals, sum_by-IsPermutation (is q) (numbers 0 intervals) places moved))

  pub each_placed : (q : ℕ) → q < length intervals → list_any (nat_eq q) places ≡ true
  each_placed q low = sym (list_any-IsPermutation (nat_eq q) (numbers 0 intervals) places moved) ∙ any_number q 0 intervals (omega arith) (omega arith)

  pub in_places : (q : ℕ) → q < length intervals → IsIn q places
  in_places q low = any_in q places (each_placed q low)

  pub places_below : (q : ℕ) → IsIn q places → q < length intervals
  places_below q h = let low = number_below q 0 intervals (list_any-IsPermutation (nat_eq q) (numbers 0 intervals) places moved ∙ in_any q places h) in omega arith

  numbers_length : (place : ℕ) (all : List Interval) → length (numbers place all) ≡ length all
  numbers_length place [] = refl
  numbers_length place (interval ∷ rest) = ap suc (numbers_length (place + 1) rest)

  pub places_length : length places ≡ length intervals
  places_length = length_permutation (numbers 0 intervals) places moved ∙ numbers_length 0 intervals
