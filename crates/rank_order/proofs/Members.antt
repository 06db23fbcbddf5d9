-- Tests on lists of places, and what they imply.
use Rattle.std.proofs.Common.{◌≡◌, ℕ, zero, suc, ◌+◌, ◌<◌, ◌≤◌, ◌≢◌, ◌⊎◌, Bool, true, false, List, [], ◌∷◌, ◌++◌, length, take, get_or, refl, ap, sym, ◌∙◌, subst, inl, inr, arith}
use Rattle.std.specs.Prelude.{Contains, AllPairs, filter, nat_eq, ◌==◌, ◌||◌}
use Rattle.std.specs.List.{range_with_len}
use Rattle.std.specs.Cmp.{nat_eq_equiv}
use Rattle.std.proofs.lemmas.Bool.{eqb-true, eq-eqb, or_cases, or_left, or_right, cases_Bool, cond-true, cond-false, true≢false, false≢true}
use Rattle.std.proofs.lemmas.List.Folds.{list_any-append, list_any_more}
use Rattle.std.proofs.lemmas.Map.Views.{list_any-from_Contains, Contains-from_any}
use Rattle.rank_order.specs.Lists.{is_among, Ascends, IsAscending}

-- ---- tests

-- tests that imply each other are the same
pub same_tests : (a b : Bool) → (a ≡ true → b ≡ true) → (b ≡ true → a ≡ true) → a ≡ b
same_tests true b over back = sym (over refl)
same_tests false true over back = back refl
same_tests false false over back = refl

pub false_unless : (b : Bool) → (b ≡ true → ⊥) → b ≡ false
false_unless true absurdly = absurd (absurdly refl)
false_unless false absurdly = refl

-- ---- members

pub among_contains : (s : ℕ) (places : List ℕ) → is_among s places ≡ true → Contains places s
among_contains s places among = Contains-from_any {eq = nat_eq} (λ x y e. eqb-true x y e) s places among

pub contains_among : (s : ℕ) (places : List ℕ) → Contains places s → is_among s places ≡ true
contains_among s places here = list_any-from_Contains {eq = nat_eq} nat_eq_equiv s places here

pub among_here : (x : ℕ) (xs : List ℕ) → is_among x (x ∷ xs) ≡ true
among_here x xs = or_left (x == x) (is_among x xs) (eq-eqb x x refl)

pub among_later : (s x : ℕ) (xs : List ℕ) → is_among s xs ≡ true → is_among s (x ∷ xs) ≡ true
among_later s x xs among = or_right (s == x) (is_among s xs) among

pub among_cases : (s x : ℕ) (xs : List ℕ) → is_among s (x ∷ xs) ≡ true → (s ≡ x) ⊎ (is_among s xs ≡ true)
among_cases s x xs among = elim (or_cases (s == x) (is_among s xs) among) [ inl same ↦ inl (eqb-true s x same) | inr later ↦ inr later ]

pub among_append : (s : ℕ) (xs ys : List ℕ) → is_among s (xs ++ ys) ≡ (is_among s xs || is_among s ys)
among_append s xs ys = list_any-append (nat_eq s) xs ys

pub among_append_cases : (s : ℕ) (xs ys : List ℕ) → is_among s (xs ++ ys) ≡ true → (is_among s xs ≡ true) ⊎ (is_among s ys ≡ true)
among_append_cases s xs ys among = or_cases (is_among s xs) (is_among s ys) (sym (among_append s xs ys) ∙ among)

pub among_append_left : (s : ℕ) (xs ys : List ℕ) → is_among s xs ≡ true → is_among s (xs ++ ys) ≡ true
among_append_left s xs ys among = among_append s xs ys ∙ or_left (is_among s xs) (is_among s ys) among

pub among_append_right : (s : ℕ) (xs ys : List ℕ) → is_among s ys ≡ true → is_among s (xs ++ ys) ≡ true
among_append_right s xs ys among = among_append s xs ys ∙ or_right (is_among s xs) (is_among s ys) among

pub among_push_left : (s u : ℕ) (places : List ℕ) → is_among s places ≡ true → is_among s (places ++ u ∷ []) ≡ true
among_push_left s u places among = among_append_left s places (u ∷ []) among

pub among_push_self : (u : ℕ) (places : List ℕ) → is_among u (places ++ u ∷ []) ≡ true
among_push_self u places = among_append_right u places (u ∷ []) (among_here u [])

pub among_push_cases : (s u : ℕ) (places : List ℕ) → is_among s (places ++ u ∷ []) ≡ true → (is_among s places ≡ true) ⊎ (s ≡ u)
among_push_cases s u places among = elim (among_append_cases s places (u ∷ []) among) [
  | inl left ↦ inl left
  | inr right ↦ elim (among_cases s u [] right) [ inl same ↦ inr same | inr none ↦ absurd (false≢true none) ]
]

-- one more element of the list
pub among_more : (s i : ℕ) (xs : List ℕ) → i < length xs → is_among s (take (i + 1) xs) ≡ (is_among s (take i xs) || (s == get_or xs i 0))
among_more s i xs within = list_any_more (nat_eq s) xs i 0 within

-- ---- filters and ranges

-- what a filter keeps passes its test, and was in the list
pub among_filter : (p : ℕ → Bool) (s : ℕ) (xs : List ℕ) → is_among s (filter p xs) ≡ true → (is_among s xs ≡ true) × (p s ≡ true)
among_filter p s [] among = absurd (false≢true among)
among_filter p s (x ∷ xs) among = elim (cases_Bool (p x)) [
  | inl holds ↦ elim (among_cases s x (filter p xs) (ap (is_among s) (sym (cond-true (p x) (x ∷ filter p xs) (filter p xs) holds)) ∙ among)) [
    | inl same ↦ (subst (λ z. is_among z (x ∷ xs) ≡ true) (sym same) (among_here x xs), ap p same ∙ holds)
    | inr later ↦ let (was, passes) = among_filter p s xs later in (among_later s x xs was, passes)
  ]
  | inr fails ↦
      let (was, passes) = among_filter p s xs (ap (is_among s) (sym (cond-false (p x) (x ∷ filter p xs) (filter p xs) fails)) ∙ among) in
      (among_later s x xs was, passes)
]

pub filter_among : (p : ℕ → Bool) (s : ℕ) (xs : List ℕ) → is_among s xs ≡ true → p s ≡ true → is_among s (filter p xs) ≡ true
filter_among p s [] among passes = among
filter_among p s (x ∷ xs) among passes = elim (cases_Bool (p x)) [
  | inl holds ↦ ap (is_among s) (cond-true (p x) (x ∷ filter p xs) (filter p xs) holds) ∙ (elim (among_cases s x xs among) [
    | inl same ↦ subst (λ z. is_among z (x ∷ filter p xs) ≡ true) (sym same) (among_here x (filter p xs))
    | inr later ↦ among_later s x (filter p xs) (filter_among p s xs later passes)
  ])
  | inr fails ↦ ap (is_among s) (cond-false (p x) (x ∷ filter p xs) (filter p xs) fails) ∙ (elim (among_cases s x xs among) [
    | inl same ↦ absurd (true≢false (sym passes ∙ ap p same ∙ fails))
    | inr later ↦ filter_among p s xs later passes
  ])
]

pub among_range : (s from count : ℕ) → is_among s (range_with_len from count) ≡ true → (from ≤ s) × (s < from + count)
among_range s from zero among = absurd (false≢true among)
among_range s from (suc count) among = elim (among_cases s from (range_with_len (from + 1) count) among) [
  | inl same ↦ (omega arith, omega arith)
  | inr later ↦ let (low, high) = among_range s (from + 1) count later in (omega arith, omega arith)
]

pub range_among : (s from count : ℕ) → from ≤ s → s < from + count → is_among s (range_with_len from count) ≡ true
range_among s from zero low high = absurd (omega arith)
range_among s from (suc count) low high = elim (cases_Bool (s == from)) [
  | inl same ↦ or_left (s == from) (is_among s (range_with_len (from + 1) count)) same
  | inr other ↦
      let differ : s ≢ from = λ e. true≢false (sym (eq-eqb s from e) ∙ other) in
      among_later s from (range_with_len (from + 1) count) (range_among s (from + 1) count (omega arith) (omega arith))
]

-- ---- ascending lists

module _ (R : ℕ → ℕ → Type 0) where
  pub ascends_append : (xs ys : List ℕ) → Ascends R xs → Ascends R ys → ((a b : ℕ) → is_among a xs ≡ true → is_among b ys ≡ true → R a b) → Ascends R (xs ++ ys)
  ascends_append [] ys front back across = back
  ascends_append (x ∷ xs) ys front back across = (
    (λ s among. elim (among_append_cases s xs ys among) [ inl left ↦ front.0 s left | inr right ↦ across x s (among_here x xs) right ]),
    ascends_append xs ys front.1 back (λ a b left right. across a b (among_later a x xs left) right),
  )

  pub ascends_push : (xs : List ℕ) (y : ℕ) → Ascends R xs → ((a : ℕ) → is_among a xs ≡ true → R a y) → Ascends R (xs ++ y ∷ [])
  ascends_push xs y kept below = ascends_append xs (y ∷ []) kept (λ s none. absurd (false≢true none), tt)
      (λ a b left right. elim (among_cases b y [] right) [
        | inl same ↦ subst (R a) (sym same) (below a left)
        | inr none ↦ absurd (false≢true none)
      ])

  pub ascends_filter : (p : ℕ → Bool) (xs : List ℕ) → Ascends R xs → Ascends R (filter p xs)
  ascends_filter p [] kept = tt
  ascends_filter p (x ∷ xs) kept = elim (cases_Bool (p x)) [
    | inl holds ↦ subst (Ascends R) (sym (cond-true (p x) (x ∷ filter p xs) (filter p xs) holds)) (
      (λ s among. kept.0 s (among_filter p s xs among).0),
      ascends_filter p xs kept.1,
    )
    | inr fails ↦ subst (Ascends R) (sym (cond-false (p x) (x ∷ filter p xs) (filter p xs) fails)) (ascends_filter p xs kept.1)
  ]

  -- by places in the list
  pub pairs_from_ascends : (xs : List ℕ) → Ascends R xs → AllPairs R xs
  pairs_from_ascends [] kept i j d below within = absurd (omega arith)
  pairs_from_ascends (x ∷ xs) kept zero zero d below within = absurd (omega arith)
  pairs_from_ascends (x ∷ xs) kept (suc i) zero d below within = absurd (omega arith)
  pairs_from_ascends (x ∷ xs) kept zero (suc j) d below within = kept.0 (get_or xs j d) (contains_among (get_or xs j d) xs (j, omega arith, same_read xs j d (omega arith))) where
    same_read : (ys : List ℕ) (k e : ℕ) → k < length ys → get_or ys k (get_or ys k e) ≡ get_or ys k e
    same_read [] k e short = absurd (omega arith)
    same_read (y ∷ ys) zero e short = refl
    same_read (y ∷ ys) (suc k) e short = same_read ys k e (omega arith)
  pairs_from_ascends (x ∷ xs) kept (suc i) (suc j) d below within = pairs_from_ascends xs kept.1 i j d (omega arith) (omega arith)

  -- two ascending lists of the same elements are one
  pub same_ascending : ((a b : ℕ) → R a b → R b a → ⊥) → (xs ys : List ℕ) → Ascends R xs → Ascends R ys → ((s : ℕ) → is_among s xs ≡ is_among s ys) → xs ≡ ys
  same_ascending strict [] [] front back same = refl
  same_ascending strict [] (y ∷ ys) front back same = absurd (false≢true (same y ∙ among_here y ys))
  same_ascending strict (x ∷ xs) [] front back same = absurd (true≢false (sym (among_here x xs) ∙ same x))
  same_ascending strict (x ∷ xs) (y ∷ ys) front back same =
      let heads : x ≡ y =
      elim (among_cases x y ys (sym (same x) ∙ among_here x xs)) [
        | inl first ↦ first
        | inr later ↦ elim (among_cases y x xs (same y ∙ among_here y ys)) [
          | inl first ↦ sym first
          | inr after ↦ absurd (strict x y (front.0 y after) (back.0 x later))
        ]
      ] in
      let tails : xs ≡ ys =
      same_ascending strict xs ys front.1 back.1
      (λ s. same_tests (is_among s xs) (is_among s ys)
      (λ among. elim (among_cases s y ys (sym (same s) ∙ among_later s x xs among)) [
        | inl first ↦ let r : R x s = front.0 s among in let here : s ≡ x = cc in absurd (strict x s r (subst (λ z. R z x) (sym here) (subst (R x) here r)))
        | inr later ↦ later
      ])
      (λ among. elim (among_cases s x xs (same s ∙ among_later s y ys among)) [
        | inl first ↦ let r : R y s = back.0 s among in let here : s ≡ y = cc in absurd (strict y s r (subst (λ z. R z y) (sym here) (subst (R y) here r)))
        | inr later ↦ later
      ])) in
      cc

-- numbers in order
pub range_ascends : (from count : ℕ) → IsAscending (range_with_len from count)
range_ascends from zero = tt
range_ascends from (suc count) = ((λ s among. let (low, high) = among_range s (from + 1) count among in omega arith), range_ascends (from + 1) count)

pub same_members : (xs ys : List ℕ) → IsAscending xs → IsAscending ys → ((s : ℕ) → is_among s xs ≡ is_among s ys) → xs ≡ ys
same_members xs ys front back same = same_ascending (λ x y. x < y) (λ a b below above. omega arith) xs ys front back same
