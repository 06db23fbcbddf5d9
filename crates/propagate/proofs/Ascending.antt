-- Places by rank, and then by place.
use Rattle.std.proofs.Common.{◌≡◌, ℕ, ◌+◌, ◌<◌, ◌≤◌, ◌≢◌, Bool, true, List, [], ◌∷◌, ◌++◌, length, get_or, refl, ap, sym, ◌∙◌, arith, subst, inl, inr, ⊎_elim}
use Rattle.std.specs.Prelude.{AllPairs, nat_eq, ◌==◌, ◌&&◌, zero, suc, filter}
use Rattle.std.specs.List.{IsDistinct, flat_map, range_with_len}
use Rattle.std.proofs.lemmas.Bool.{eqb-true, eq-eqb, or_left, and_parts, and_from, true≢false, false≢true, cases_Bool, cond-true, cond-false}
use Rattle.std.proofs.lemmas.Map.Made.{IsDistinct-from_AllPairs}
use Rattle.std.proofs.lemmas.Bool.Decides.{Decides-eqb}
use Rattle.stage_graph.specs.Walk.{rank}
use Rattle.rank_order.specs.Lists.{is_among}
use Rattle.rank_order.specs.Marks.{ComesBefore}
use Rattle.propagate.specs.Reach.{Stages}
use Rattle.propagate.proofs.Members.{same_tests, among_contains, among_here, among_later, among_cases, among_append_cases, among_append_left, among_append_right}

-- by rank in the graph, and then by place
abbrev pub IsBefore : Stages → ℕ → ℕ → Type 0
IsBefore stages one other = ComesBefore (rank stages) one other

-- each element stands before those that follow it in the list
abbrev pub Ascends : (ℕ → ℕ → Type 0) → List ℕ → Type 0
Ascends R [] = Unit {0}
Ascends R (x ∷ xs) = ((s : ℕ) → is_among s xs ≡ true → R x s) × Ascends R xs

pub ascends_from_pairs : (R : ℕ → ℕ → Type 0) (xs : List ℕ) → AllPairs R xs → Ascends R xs
ascends_from_pairs R [] h = tt
ascends_from_pairs R (x ∷ xs) h = (
  (λ s c. let (k, l, e) = among_contains s xs c in subst (λ y. R x y) e (h zero (suc k) s (omega arith) (omega arith))),
  ascends_from_pairs R xs (λ i j d below within. h (suc i) (suc j) d (omega arith) (omega arith)),
)

-- Two ascending lists of the same elements are one.
pub same_ascending : (R : ℕ → ℕ → Type 0) → ((a b : ℕ) → R a b → R b a → ⊥) → (xs ys : List ℕ) → Ascends R xs → Ascends R ys → ((s : ℕ) → is_among s xs ≡ is_among s ys) → xs ≡ ys
same_ascending R strict [] [] h k same = refl
same_ascending R strict [] (y ∷ ys) h k same = absurd (false≢true (same y ∙ among_here y ys))
same_ascending R strict (x ∷ xs) [] h k same = absurd (true≢false (sym (among_here x xs) ∙ same x))
same_ascending R strict (x ∷ xs) (y ∷ ys) h k same =
    let heads : x ≡ y =
    ⊎_elim
    (λ e. e)
    (λ later.
    ⊎_elim (λ e. sym e) (λ after. absurd (strict x y (h.0 y after) (k.0 x later)))
    (among_cases y x xs (same y ∙ among_here y ys)))
    (among_cases x y ys (sym (same x) ∙ among_here x xs)) in
    let tails : xs ≡ ys =
    same_ascending R strict xs ys h.1 k.1
    (λ s. same_tests (is_among s xs) (is_among s ys)
    (λ c. ⊎_elim (λ (e : s ≡ y). let r : R x s = h.0 s c in let e' : s ≡ x = cc in absurd (strict x s r (subst (λ z. R z x) (sym e') (subst (λ z. R x z) e' r)))) (λ l. l)
    (among_cases s y ys (sym (same s) ∙ among_later s x xs c)))
    (λ c. ⊎_elim (λ (e : s ≡ x). let r : R y s = k.0 s c in let e' : s ≡ y = cc in absurd (strict y s r (subst (λ z. R z y) (sym e') (subst (λ z. R y z) e' r)))) (λ l. l)
    (among_cases s x xs (same s ∙ among_later s y ys c)))) in
    cc

pub ascends_append : (R : ℕ → ℕ → Type 0) (xs ys : List ℕ) → Ascends R xs → Ascends R ys → ((a b : ℕ) → is_among a xs ≡ true → is_among b ys ≡ true → R a b) → Ascends R (xs ++ ys)
ascends_append R [] ys h k across = k
ascends_append R (x ∷ xs) ys h k across = (
  (λ s c. ⊎_elim (λ l. h.0 s l) (λ r. across x s (among_here x xs) r) (among_append_cases s xs ys c)),
  ascends_append R xs ys h.1 k (λ a b i j. across a b (among_later a x xs i) j),
)

-- what a filter keeps passes its test, and was in the list
pub among_filter : (p : ℕ → Bool) (s : ℕ) (xs : List ℕ) → is_among s (filter p xs) ≡ true → (is_among s xs ≡ true) × (p s ≡ true)
among_filter p s [] h = absurd (false≢true h)
among_filter p s (x ∷ xs) h =
    ⊎_elim
    (λ yes.
    ⊎_elim
    (λ e. (subst (λ z. is_among z (x ∷ xs) ≡ true) (sym e) (among_here x xs), subst (λ z. p z ≡ true) (sym e) yes))
    (λ l. let (m, t) = among_filter p s xs l in (among_later s x xs m, t))
    (among_cases s x (filter p xs) (ap (is_among s) (sym (cond-true (p x) (x ∷ filter p xs) (filter p xs) yes)) ∙ h)))
    (λ no. let (m, t) = among_filter p s xs (ap (is_among s) (sym (cond-false (p x) (x ∷ filter p xs) (filter p xs) no)) ∙ h) in (among_later s x xs m, t))
    (cases_Bool (p x))

pub filter_among : (p : ℕ → Bool) (s : ℕ) (xs : List ℕ) → is_among s xs ≡ true → p s ≡ true → is_among s (filter p xs) ≡ true
filter_among p s [] h t = h
filter_among p s (x ∷ xs) h t =
    ⊎_elim
    (λ yes.
    ap (is_among s) (cond-true (p x) (x ∷ filter p xs) (filter p xs) yes)
    ∙ ⊎_elim
    (λ e. subst (λ z. is_among z (x ∷ filter p xs) ≡ true) (sym e) (among_here x (filter p xs)))
    (λ l. among_later s x (filter p xs) (filter_among p s xs l t))
    (among_cases s x xs h))
    (λ no.
    ap (is_among s) (cond-false (p x) (x ∷ filter p xs) (filter p xs) no)
    ∙ ⊎_elim
    (λ e. absurd (true≢false (sym t ∙ ap p e ∙ no)))
    (λ l. filter_among p s xs l t)
    (among_cases s x xs h))
    (cases_Bool (p x))

pub among_range : (s from count : ℕ) → is_among s (range_with_len from count) ≡ true → (from ≤ s) × (s < from + count)
among_range s from zero h = absurd (false≢true h)
among_range s from (suc count) h =
    ⊎_elim
    (λ e. (omega arith, omega arith))
    (λ l. let (a, b) = among_range s (from + 1) count l in (omega arith, omega arith))
    (among_cases s from (range_with_len (from + 1) count) h)

pub range_among : (s from count : ℕ) → from ≤ s → s < from + count → is_among s (range_with_len from count) ≡ true
range_among s from zero a b = absurd (omega arith)
range_among s from (suc count) a b =
    ⊎_elim
    (λ same. or_left (s == from) (is_among s (range_with_len (from + 1) count)) same)
    (λ other.
    let differ : s ≢ from = λ e. true≢false (sym (eq-eqb s from e) ∙ other) in
    among_later s from (range_with_len (from + 1) count) (range_among s (from + 1) count (omega arith) (omega arith)))
    (cases_Bool (s == from))

module _ (stages : Stages) (p : ℕ → Bool) where
  -- the places of a rank that pass the test
  abbrev pub on_level : List ℕ → ℕ → List ℕ
  on_level places level = filter (λ s. rank stages s == level && p s) places

  level_of : (places : List ℕ) (level s : ℕ) → is_among s (on_level places level) ≡ true → rank stages s ≡ level
  level_of places level s h =
      let (c, t) = among_filter (λ s. rank stages s == level && p s) s places h in
      eqb-true (rank stages s) level (and_parts (rank stages s == level) (p s) t).0

  level_ascends : (level from count : ℕ) → Ascends (IsBefore stages) (on_level (range_with_len from count) level)
  level_ascends level from zero = tt
  level_ascends level from (suc count) =
      let rest = on_level (range_with_len (from + 1) count) level in
      ⊎_elim
      (λ yes. subst (λ xs. Ascends (IsBefore stages) xs) (sym (cond-true (rank stages from == level && p from) (from ∷ rest) rest yes)) (
        (λ s c.
            let (within, t) = among_filter (λ s. rank stages s == level && p s) s (range_with_len (from + 1) count) c in
            let (low, high) = among_range s (from + 1) count within in
            let here : rank stages from ≡ level = eqb-true (rank stages from) level (and_parts (rank stages from == level) (p from) yes).0 in
            inr (here ∙ sym (level_of (range_with_len (from + 1) count) level s c), omega arith)),
        level_ascends level (from + 1) count,
      ))
      (λ no. subst (λ xs. Ascends (IsBefore stages) xs) (sym (cond-false (rank stages from == level && p from) (from ∷ rest) rest no)) (level_ascends level (from + 1) count))
      (cases_Bool (rank stages from == level && p from))

  -- the places that pass the test, level by level
  abbrev pub by_level : List ℕ → List ℕ → List ℕ
  by_level places levels = flat_map (on_level places) levels

  pub among_levels : (places : List ℕ) (from count s : ℕ) → is_among s (by_level places (range_with_len from count)) ≡ true → (from ≤ rank stages s) × (is_among s places ≡ true) × (p s ≡ true)
  among_levels places from zero s h = absurd (false≢true h)
  among_levels places from (suc count) s h =
      ⊎_elim
      (λ l.
      let (c, t) = among_filter (λ s. rank stages s == from && p s) s places l in
      let here : rank stages s ≡ from = level_of places from s l in
      (omega arith, c, (and_parts (rank stages s == from) (p s) t).1))
      (λ r. let (low, c, t) = among_levels places (from + 1) count s r in (omega arith, c, t))
      (among_append_cases s (on_level places from) (by_level places (range_with_len (from + 1) count)) h)

  pub levels_among : (places : List ℕ) (from count s : ℕ) → from ≤ rank stages s → rank stages s < from + count → is_among s places ≡ true → p s ≡ true → is_among s (by_level places (range_with_len from count)) ≡ true
  levels_among places from zero s low high c t = absurd (omega arith)
  levels_among places from (suc count) s low high c t =
      ⊎_elim
      (λ here. among_append_left s (on_level places from) (by_level places (range_with_len (from + 1) count))
      (filter_among (λ s. rank stages s == from && p s) s places c (and_from (rank stages s == from) (p s) here t)))
      (λ other.
      let differ : rank stages s ≢ from = λ e. true≢false (sym (eq-eqb (rank stages s) from e) ∙ other) in
      among_append_right s (on_level places from) (by_level places (range_with_len (from + 1) count))
      (levels_among places (from + 1) count s (omega arith) (omega arith) c t))
      (cases_Bool (rank stages s == from))

  pub levels_ascend : (size from count : ℕ) → Ascends (IsBefore stages) (by_level (range_with_len 0 size) (range_with_len from count))
  levels_ascend size from zero = tt
  levels_ascend size from (suc count) =
      ascends_append (IsBefore stages) (on_level (range_with_len 0 size) from) (by_level (range_with_len 0 size) (range_with_len (from + 1) count))
      (level_ascends from 0 size)
      (levels_ascend size (from + 1) count)
      (λ a b i j.
      let here : rank stages a ≡ from = level_of (range_with_len 0 size) from a i in
      let (low, c, t) = among_levels (range_with_len 0 size) (from + 1) count b j in
      inl (omega arith))

pub before_strict : (stages : Stages) (a b : ℕ) → IsBefore stages a b → IsBefore stages b a → ⊥
before_strict stages a b (inl h) (inl k) = omega arith
before_strict stages a b (inl h) (inr (k, l)) = omega arith
before_strict stages a b (inr (h, l)) (inl k) = omega arith
before_strict stages a b (inr (h, l)) (inr (k, m)) = omega arith

-- An ascending list whose elements are all in another is no longer.
pub no_longer : (R : ℕ → ℕ → Type 0) → ((a b : ℕ) → R a b → R b a → ⊥) → (xs ys : List ℕ) → Ascends R xs → Ascends R ys → ((s : ℕ) → is_among s xs ≡ true → is_among s ys ≡ true) → length xs ≤ length ys
no_longer R strict [] ys h k within = omega arith
no_longer R strict (x ∷ xs) [] h k within = absurd (false≢true (within x (among_here x xs)))
no_longer R strict (x ∷ xs) (y ∷ ys) h k within =
    ⊎_elim
    (λ (e : x ≡ y).
    let shorter : length xs ≤ length ys =
    no_longer R strict xs ys h.1 k.1
    (λ s c. ⊎_elim (λ (same : s ≡ y). let r : R x s = h.0 s c in let e' : s ≡ x = cc in absurd (strict x s r (subst (λ z. R z x) (sym e') (subst (λ z. R x z) e' r)))) (λ l. l)
    (among_cases s y ys (within s (among_later s x xs c)))) in
    omega arith)
    (λ later.
    let shorter : length (x ∷ xs) ≤ length ys =
    no_longer R strict (x ∷ xs) ys h k.1
    (λ s c. ⊎_elim
    (λ (same : s ≡ y).
    absurd (⊎_elim
    (λ (first : s ≡ x). let r : R y x = k.0 x later in let e' : y ≡ x = cc in strict y x r (subst (λ z. R z y) e' (subst (λ z. R y z) (sym e') r)))
    (λ after. let r : R x y = subst (λ z. R x z) same (h.0 s after) in strict x y r (k.0 x later))
    (among_cases s x xs c)))
    (λ l. l)
    (among_cases s y ys (within s c))) in
    omega arith)
    (among_cases x y ys (within x (among_here x xs)))

before_apart : (stages : Stages) (a b : ℕ) → IsBefore stages a b → a ≢ b
before_apart stages a b (inl h) e = let same : rank stages a ≡ rank stages b = ap (rank stages) e in omega arith
before_apart stages a b (inr (h, l)) e = omega arith

-- places in order are distinct
pub distinct_from_before : (stages : Stages) (xs : List ℕ) → AllPairs (IsBefore stages) xs → IsDistinct nat_eq xs
distinct_from_before stages xs h = IsDistinct-from_AllPairs {eq = nat_eq} (λ a b. Decides-eqb a b) xs (λ i j d below within. before_apart stages (get_or xs i d) (get_or xs j d) (h i j d below within))
