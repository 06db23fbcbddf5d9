-- Places of spans in the order of their starts.
use Rattle.std.proofs.Common.{◌≡◌, ℕ, suc, ◌+◌, ◌<◌, ◌≤◌, inl, inr, List, [], ◌∷◌, Bool, true, false, cond, get_or, length, map, Option, Some, None, refl, sym, ap, ◌∙◌, subst, arith}
use Rattle.std.specs.Prelude.{◌≢◌, ◌==◌, ◌||◌, All, AllPairs, IsPermutation, IsSorted, nat_eq, slice_get, sum_by, unwrap_or}
use Rattle.std.specs.declared.cmp.Ordering.{Ordering}
use Rattle.std.specs.declared.cmp.Ordering.TheVariants.{Less, Equal, Greater}
use Rattle.std.specs.List.{list_any}
use Rattle.std.specs.List.Sorted.{IsNonDecreasingBy}
use Rattle.std.specs.Ordering.{is_lt, nat_cmp, ordering_then}
use Rattle.std.proofs.lemmas.Bool.{cases_Bool, cases_lt, eq-eqb, eqb-true, lt-ltb, ne_eqb, or_left, or_right, true≢false}
use Rattle.std.proofs.lemmas.List.{get_or-map, length-map}
use Rattle.std.proofs.lemmas.List.Elements.{All-cons, All-nil}
use Rattle.std.proofs.lemmas.List.Kept.{AllPairs-cons}
use Rattle.std.proofs.lemmas.List.Sorted.{All-permutation, IsNonDecreasingBy-from_all_adjacent, list_any-IsPermutation, sum_by-IsPermutation}
use Rattle.std.proofs.lemmas.List.Sums.{get_or-le-sum_by, sum_by-cons}
use Rattle.trace_relations.specs.declared.moment.Interval.{Interval}
use Rattle.trace_relations.specs.Ancestry.{start_at}
use Rattle.trace_relations.specs.ByStart.{AreByStart, AreInTurn, all_starts, pair_cmp, starts_from}

-- ---- each start stands beside its place

abbrev IsStart : List Interval → ℕ × ℕ → Type 0
IsStart intervals start = start.0 ≡ start_at intervals start.1

are_starts : (intervals : List Interval) (i : ℕ) (xs : List Interval) → ((k : ℕ) (x : Interval) → slice_get xs k ≡ Some x → slice_get intervals (i + k) ≡ Some x) → All (IsStart intervals) (starts_from i xs)
are_starts intervals i [] there = All-nil (IsStart intervals)
are_starts intervals i (x ∷ xs) there =
    let e : i + 0 ≡ i = omega arith in
    let here : slice_get intervals i ≡ Some x = ap (slice_get intervals) (sym e) ∙ there 0 x refl in
    All-cons (IsStart intervals) (x.start, i) (starts_from (i + 1) xs) (sym (ap (λ (o : Option Interval). (unwrap_or o (record { start = 0; end = None })).start) here))
    (are_starts intervals (i + 1) xs (λ k y is. let f : (i + 1) + k ≡ i + suc k = omega arith in ap (slice_get intervals) f ∙ there (suc k) y is))

-- ---- no place stands twice

abbrev one_at : ℕ → ℕ × ℕ → ℕ
one_at place start = cond (nat_eq place start.1) 1 0

none_below : (place i : ℕ) (xs : List Interval) → place < i → sum_by (one_at place) (starts_from i xs) ≡ 0
none_below place i [] lt = refl
none_below place i (x ∷ xs) lt =
    let apart : nat_eq place i ≡ false = ne_eqb place i (λ e. omega arith) in
    sum_by-cons (one_at place) (x.start, i) (starts_from (i + 1) xs) ∙ ap (λ b. cond b 1 0 + sum_by (one_at place) (starts_from (i + 1) xs)) apart ∙ ap (λ n. 0 + n) (none_below place (i + 1) xs (omega arith))

once_from : (place i : ℕ) (xs : List Interval) → sum_by (one_at place) (starts_from i xs) ≤ 1
once_from place i [] = omega arith
once_from place i (x ∷ xs) = by_test (nat_eq place i) refl (once_from place (i + 1) xs)
  where
    by_test : (b : Bool) → nat_eq place i ≡ b → sum_by (one_at place) (starts_from (i + 1) xs) ≤ 1 → sum_by (one_at place) ((x.start, i) ∷ starts_from (i + 1) xs) ≤ 1
    by_test true is rest =
        let e : place ≡ i = eqb-true place i is in
        let f : ◌≡◌ {A = ℕ} (cond (nat_eq place i) 1 0) 1 = ap (λ b. cond b 1 0) is in
        omega (arith, sum_by-cons (one_at place) (x.start, i) (starts_from (i + 1) xs), f, none_below place (i + 1) xs (omega arith))
    by_test false is rest =
        let f : ◌≡◌ {A = ℕ} (cond (nat_eq place i) 1 0) 0 = ap (λ b. cond b 1 0) is in
        omega (arith, sum_by-cons (one_at place) (x.start, i) (starts_from (i + 1) xs), f, rest)

abbrev AreApart : ℕ × ℕ → ℕ × ℕ → Type 0
AreApart start other = start.1 ≢ other.1

pairs_apart : (starts : List (ℕ × ℕ)) → ((place : ℕ) → sum_by (one_at place) starts ≤ 1) → AllPairs AreApart starts
pairs_apart [] once = λ i j d lt within. absurd (omega arith)
pairs_apart (start ∷ starts) once =
    let own : ◌≡◌ {A = ℕ} (cond (nat_eq start.1 start.1) 1 0) 1 = ap (λ b. cond b 1 0) (eq-eqb start.1 start.1 refl) in
    let one : sum_by (one_at start.1) (start ∷ starts) ≤ 1 = once start.1 in
    let none : sum_by (one_at start.1) starts ≡ 0 = omega (arith, sum_by-cons (one_at start.1) start starts, own) in
    AllPairs-cons AreApart start starts
    (λ k d within same.
    let here : ◌≡◌ {A = ℕ} (cond (nat_eq start.1 (get_or starts k d).1) 1 0) 1 = ap (λ b. cond b 1 0) (eq-eqb start.1 (get_or starts k d).1 same) in
    omega (arith, here, none, get_or-le-sum_by (one_at start.1) starts k d within))
    (pairs_apart starts (λ place. omega (arith, once place, sum_by-cons (one_at place) start starts)))

-- ---- starts rise

not_after : (x y : ℕ) (o : Ordering) → is_lt (ordering_then (nat_cmp y x) o) ≡ false → x ≤ y
not_after x y o low = elim (cases_lt y x) [
  | inl lt ↦ absurd (true≢false (sym (ap (λ b. is_lt (ordering_then (cond b Less (cond (y == x) Equal Greater)) o)) (lt-ltb y x lt)) ∙ low))
  | inr le ↦ le
]

starts_rise : (starts : List (ℕ × ℕ)) → IsSorted pair_cmp starts → IsNonDecreasingBy (λ start. start.0) starts
starts_rise starts sorted =
    IsNonDecreasingBy-from_all_adjacent (λ (start : ℕ × ℕ). start.0) starts
    (λ k d lt. not_after (get_or starts k d).0 (get_or starts (k + 1) d).0 (nat_cmp (get_or starts (k + 1) d).1 (get_or starts k d).1) (sorted k d (omega arith) lt))

-- ---- places by starts

place_of : (starts : List (ℕ × ℕ)) (k d : ℕ) → k < length starts → get_or (map (λ (start : ℕ × ℕ). start.1) starts) k d ≡ (get_or starts k (d, d)).1
place_of starts k d lt = get_or-map (λ (start : ℕ × ℕ). start.1) starts k (d, d) d lt

turns_of : (intervals : List Interval) (starts : List (ℕ × ℕ)) → IsPermutation (all_starts intervals) starts → IsSorted pair_cmp starts → AreInTurn intervals (map (λ start. start.1) starts)
turns_of intervals starts moved sorted =
    let long : length (map (λ (start : ℕ × ℕ). start.1) starts) ≡ length starts = length-map starts (λ (start : ℕ × ℕ). start.1) in
    let are : All (IsStart intervals) starts =
    All-permutation (IsStart intervals) (all_starts intervals) starts moved (are_starts intervals 0 intervals (λ k x is. let e : 0 + k ≡ k = omega arith in ap (slice_get intervals) e ∙ is)) in
    let apart = pairs_apart starts (λ place. let same = sum_by-IsPermutation (one_at place) (all_starts intervals) starts moved in omega (arith, same, once_from place 0 intervals)) in
    let rise = starts_rise starts sorted in
    record {
      rise = λ i j d le within.
          let lt_j : j < length starts = omega arith in
          let lt_i : i < length starts = omega arith in
          let at_i : (get_or starts i (d, d)).0 ≡ start_at intervals (get_or (map (λ (start : ℕ × ℕ). start.1) starts) i d) = are i (d, d) lt_i ∙ ap (start_at intervals) (sym (place_of starts i d lt_i)) in
          let at_j : (get_or starts j (d, d)).0 ≡ start_at intervals (get_or (map (λ (start : ℕ × ℕ). start.1) starts) j d) = are j (d, d) lt_j ∙ ap (start_at intervals) (sym (place_of starts j d lt_j)) in
          omega (arith, at_i, at_j, rise i j (d, d) le lt_j);
      once = λ i j d lt within same.
          let lt_j : j < length starts = omega arith in
          let lt_i : i < length starts = omega arith in
          apart i j (d, d) lt lt_j (sym (place_of starts i d lt_i) ∙ same ∙ place_of starts j d lt_j);
    }

-- in the order of starts places are in turn
pub in_turn : (intervals : List Interval) (order : List ℕ) → AreByStart intervals order → AreInTurn intervals order
in_turn intervals order by = subst (AreInTurn intervals) (sym by.2) (turns_of intervals by.0 by.1.0 by.1.1)

-- ---- each place is among them

any_mapped : (p : ℕ → Bool) (starts : List (ℕ × ℕ)) → list_any p (map (λ start. start.1) starts) ≡ list_any (λ start. p start.1) starts
any_mapped p [] = refl
any_mapped p (start ∷ starts) = ap (λ b. p start.1 || b) (any_mapped p starts)

start_among : (place i : ℕ) (xs : List Interval) → i ≤ place → place < i + length xs → list_any (λ (start : ℕ × ℕ). nat_eq place start.1) (starts_from i xs) ≡ true
start_among place i [] from until = absurd (omega arith)
start_among place i (x ∷ xs) from until = elim (cases_Bool (nat_eq place i)) [
  | inl same ↦ or_left (nat_eq place i) (list_any (λ (start : ℕ × ℕ). nat_eq place start.1) (starts_from (i + 1) xs)) same
  | inr other ↦
      let ne : place ≡ i → ⊥ = λ e. true≢false (sym (eq-eqb place i e) ∙ other) in
      or_right (nat_eq place i) (list_any (λ (start : ℕ × ℕ). nat_eq place start.1) (starts_from (i + 1) xs)) (start_among place (i + 1) xs (omega arith) (omega arith))
]

pub place_among : (intervals : List Interval) (order : List ℕ) → AreByStart intervals order → (place : ℕ) → place < length intervals → list_any (nat_eq place) order ≡ true
place_among intervals order by place lt =
    ap (list_any (nat_eq place)) by.2 ∙ any_mapped (nat_eq place) by.0 ∙ sym (list_any-IsPermutation (λ (start : ℕ × ℕ). nat_eq place start.1) (all_starts intervals) by.0 by.1.0)
    ∙ start_among place 0 intervals (omega arith) (omega arith)
