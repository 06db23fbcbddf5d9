-- Marks as they are stored: in a heap, by rank and then by place, in which no place stands twice.
use Rattle.std.proofs.Common.{◌≡◌, ℕ, zero, suc, ◌+◌, ◌<◌, ◌≤◌, ◌⊎◌, Bool, true, false, List, [], ◌∷◌, map, length, take, drop, set, get_or, refl, ap, sym, ◌∙◌, subst, inl, inr, arith, drop-cons}
use Rattle.std.specs.Prelude.{not, ◌==◌, ◌&&◌, ◌||◌, nat_eq, IsPermutation, AllPairs, Option, Some, None, IfSome}
use Rattle.std.specs.Ordering.{is_lt}
use Rattle.std.specs.declared.cmp.Reverse.{Reverse}
use Rattle.std.specs.List.{list_any, list_all, IsDistinct}
use Rattle.std.specs.BinaryHeap.{IsHeap, IsUpperBound}
use Rattle.std.proofs.lemmas.Bool.{eqb-true, eq-eqb, ne_eqb, or_cases, or_from, or_left, or_right, and_parts, and_from, and_right, not-true, false≢true, true≢false}
use Rattle.std.proofs.lemmas.Bool.Decides.{nat_tests}
use Rattle.std.proofs.lemmas.List.{get_or_default, get_or-map, length-map, map-set}
use Rattle.std.proofs.lemmas.List.Sorted.{length_permutation, list_any-IsPermutation, IsPermutation-map}
use Rattle.std.proofs.Math.Bool.{or-false}
use Rattle.std.proofs.Math.Seq.{map-set_same}
use Rattle.rank_order.specs.declared.marks.Mark.{Mark}
use Rattle.rank_order.specs.Lists.{is_among}
use Rattle.rank_order.specs.Marks.{has_mark, has_place, is_marked, place_of, AreMarks, IsLeastRank, IsLevel, IsPopped}
use Rattle.rank_order.specs.MarkHeaps.{mark_cmp, heap_cmp, marks_in, pair_of, places_in, has_rank, AreStored, HaveRank, IsBottom, IsMarkedAs, IsSetOf, IsSetWith, IsSetWithout}
use Rattle.rank_order.proofs.Members.{same_tests, false_unless, among_more}
use Rattle.rank_order.proofs.Places.{among_moved, distinct_head, distinct_tail, distinct_none, distinct_moved, distinct_more, distinct_less, gone_less}

abbrev pub is_mark : ℕ → ℕ → Reverse Mark → Bool
is_mark rank place mark = mark.0.rank == rank && mark.0.place == place

-- the marks that contracts see are those of the heap
pub has_in : (rank place : ℕ) (items : List (Reverse Mark)) → has_mark (marks_in items) rank place ≡ list_any (is_mark rank place) items
has_in rank place [] = refl
has_in rank place (mark ∷ items) = ap (λ b. is_mark rank place mark || b) (has_in rank place items)

same_permuted : (xs ys : List (Reverse Mark)) → IsPermutation xs ys → (rank place : ℕ) → has_mark (marks_in ys) rank place ≡ has_mark (marks_in xs) rank place
same_permuted xs ys moved rank place = has_in rank place ys ∙ sym (list_any-IsPermutation (is_mark rank place) xs ys moved) ∙ sym (has_in rank place xs)

-- and so are their places
pub place_in : (place : ℕ) (items : List (Reverse Mark)) → list_any (λ (mark : Reverse Mark). place == mark.0.place) items ≡ is_among place (places_in items)
place_in place [] = refl
place_in place (mark ∷ items) = ap (λ b. place == mark.0.place || b) (place_in place items)

pub places_moved : (xs ys : List (Reverse Mark)) → IsPermutation xs ys → IsPermutation (places_in xs) (places_in ys)
places_moved xs ys moved = IsPermutation-map place_of (marks_in xs) (marks_in ys) (IsPermutation-map pair_of xs ys moved)

-- the place of a mark is marked
pub mark_place : (marks : List (ℕ × ℕ)) (rank place : ℕ) → has_mark marks rank place ≡ true → has_place marks place ≡ true
mark_place [] rank place has = absurd (false≢true has)
mark_place (mark ∷ marks) rank place has = elim (or_cases (mark.0 == rank && mark.1 == place) (has_mark marks rank place) has) [
  | inl same ↦ or_left (place == mark.1) (has_place marks place) (eq-eqb place mark.1 (sym (eqb-true mark.1 place (and_parts (mark.0 == rank) (mark.1 == place) same).1)))
  | inr later ↦ or_right (place == mark.1) (has_place marks place) (mark_place marks rank place later)
]

-- ---- where no place stands twice, it has one rank

not_twice : (mark : Reverse Mark) (items : List (Reverse Mark)) → IsDistinct nat_eq (places_in (mark ∷ items))
    → (rank other_rank place : ℕ) → is_mark rank place mark ≡ true → has_mark (marks_in items) other_rank place ≡ true → true ≡ false
not_twice mark items once rank other_rank place here later =
    let spot : mark.0.place ≡ place = eqb-true (mark.0.place) place (and_parts (mark.0.rank == rank) (mark.0.place == place) here).1 in
    sym (mark_place (marks_in items) other_rank place later) ∙ ap (λ x. is_among x (places_in items)) (sym spot) ∙ distinct_head (mark.0.place) (places_in items) once

pub one_rank : (items : List (Reverse Mark)) → IsDistinct nat_eq (places_in items) → (rank other_rank place : ℕ)
    → has_mark (marks_in items) rank place ≡ true → has_mark (marks_in items) other_rank place ≡ true → other_rank ≡ rank
one_rank [] once rank other_rank place has also = absurd (false≢true has)
one_rank (mark ∷ items) once rank other_rank place has also = elim (or_cases (is_mark rank place mark) (has_mark (marks_in items) rank place) has) [
  | inl here ↦ elim (or_cases (is_mark other_rank place mark) (has_mark (marks_in items) other_rank place) also) [
    | inl same ↦
        sym (eqb-true (mark.0.rank) other_rank (and_parts (mark.0.rank == other_rank) (mark.0.place == place) same).0)
        ∙ eqb-true (mark.0.rank) rank (and_parts (mark.0.rank == rank) (mark.0.place == place) here).0
    | inr later ↦ absurd (true≢false (not_twice mark items once rank other_rank place here later))
  ]
  | inr later ↦ elim (or_cases (is_mark other_rank place mark) (has_mark (marks_in items) other_rank place) also) [
    | inl same ↦ absurd (true≢false (not_twice mark items once other_rank rank place same later))
    | inr both ↦ one_rank items (distinct_tail (mark.0.place) (places_in items) once) rank other_rank place later both
  ]
]

-- ---- one mark more, one less

flipped : (rank place other_rank other : ℕ) → (rank == other_rank && place == other) ≡ (other_rank == rank && other == place)
flipped rank place other_rank other = same_tests (rank == other_rank && place == other) (other_rank == rank && other == place)
    (λ both. let (first, second) = and_parts (rank == other_rank) (place == other) both in
    and_from (other_rank == rank) (other == place) (eq-eqb other_rank rank (sym (eqb-true rank other_rank first))) (eq-eqb other place (sym (eqb-true place other second))))
    (λ both. let (first, second) = and_parts (other_rank == rank) (other == place) both in
    and_from (rank == other_rank) (place == other) (eq-eqb rank other_rank (sym (eqb-true other_rank rank first))) (eq-eqb place other (sym (eqb-true other place second))))

or_turned : (a b : Bool) → (a || b) ≡ (b || a)
or_turned true true = refl
or_turned true false = refl
or_turned false true = refl
or_turned false false = refl

pub has_more : (old new : List (Reverse Mark)) (mark : Reverse Mark) → IsPermutation (mark ∷ old) new
    → (rank place : ℕ) → has_mark (marks_in new) rank place ≡ (has_mark (marks_in old) rank place || (rank == mark.0.rank && place == mark.0.place))
has_more old new mark moved rank place =
    same_permuted (mark ∷ old) new moved rank place
    ∙ or_turned (is_mark rank place mark) (has_mark (marks_in old) rank place)
    ∙ ap (λ b. has_mark (marks_in old) rank place || b) (flipped (mark.0.rank) (mark.0.place) rank place)

-- the mark stands once less
pub has_one : (old new : List (Reverse Mark)) (mark : Reverse Mark) → IsPermutation old (mark ∷ new)
    → (rank place : ℕ) → has_mark (marks_in old) rank place ≡ ((rank == mark.0.rank && place == mark.0.place) || has_mark (marks_in new) rank place)
has_one old new mark moved rank place =
    sym (same_permuted old (mark ∷ new) moved rank place)
    ∙ ap (λ b. b || has_mark (marks_in new) rank place) (flipped (mark.0.rank) (mark.0.place) rank place)

not_below : (one other : Mark) → is_lt (mark_cmp other one) ≡ false → (one.rank < other.rank) ⊎ ((one.rank ≡ other.rank) × (one.place ≤ other.place))
not_below one other low = grind (arith, nat_tests)

-- the top of a heap is the least mark
pub bottom : (mark : Reverse Mark) (items : List (Reverse Mark)) → IsUpperBound heap_cmp mark items → IsBottom (marks_in items) (mark.0.rank) (mark.0.place)
bottom mark [] low rank place has = absurd (false≢true has)
bottom mark (first ∷ items) low rank place has = elim (or_cases (is_mark rank place first) (has_mark (marks_in items) rank place) has) [
  | inl same ↦
      let (same_rank, same_place) = and_parts (first.0.rank == rank) (first.0.place == place) same in
      let ranks : first.0.rank ≡ rank = eqb-true (first.0.rank) rank same_rank in
      let places : first.0.place ≡ place = eqb-true (first.0.place) place same_place in
      elim (not_below (mark.0) (first.0) low.0) [ inl lower ↦ inl (omega arith) | inr (equal, le) ↦ inr (omega arith, omega arith) ]
  | inr later ↦ bottom mark items low.1 rank place later
]

own_mark : (mark : Reverse Mark) → (mark.0.rank == mark.0.rank && mark.0.place == mark.0.place) ≡ true
own_mark mark = and_from (mark.0.rank == mark.0.rank) (mark.0.place == mark.0.place) (eq-eqb (mark.0.rank) (mark.0.rank) refl) (eq-eqb (mark.0.place) (mark.0.place) refl)

-- what stands first is there
pub has_first : (items : List (Reverse Mark)) (first : Reverse Mark) → 0 < length items → first ≡ get_or items 0 first → has_mark (marks_in items) (first.0.rank) (first.0.place) ≡ true
has_first [] first some is = absurd (omega arith)
has_first (top ∷ items) first some is =
    subst (λ (mark : Reverse Mark). has_mark (marks_in (mark ∷ items)) (first.0.rank) (first.0.place) ≡ true) is
    (or_left (is_mark (first.0.rank) (first.0.place) first) (has_mark (marks_in items) (first.0.rank) (first.0.place)) (own_mark first))

pub least_is : (items : List (Reverse Mark)) (first : Reverse Mark) → 0 < length items → first ≡ get_or items 0 first → IsUpperBound heap_cmp first items → IsLeastRank (marks_in items) (first.0.rank)
least_is items first some is low = (
  (first.0.place, has_first items first some is),
  λ rank place has. elim (bottom first items low rank place has) [ inl lower ↦ omega arith | inr (same, le) ↦ omega arith ],
)

or_apart : (a b : Bool) → ((a || b) && not a) ≡ (b && not a)
or_apart true true = refl
or_apart true false = refl
or_apart false true = refl
or_apart false false = refl

alone : (a b : Bool) → (b ≡ true → a ≡ false) → a ≡ (a && not b)
alone a true none = none refl ∙ sym (and_right a false refl)
alone true false none = refl
alone false false none = refl

-- ---- another mark

-- the mark is put in
pub pushed : (old new : List (Reverse Mark)) (mark : Reverse Mark) → IsPermutation (mark ∷ old) new → IsMarkedAs (marks_in old) (marks_in new) (mark.0.rank) (mark.0.place)
pushed old new mark moved = record {
  here = more rank place ∙ or_right (has_mark (marks_in old) rank place) (rank == rank && place == place) (own_mark mark);
  others = λ other_rank other apart.
      more other_rank other
      ∙ ap (λ b. has_mark (marks_in old) other_rank other || b) (and_right (other_rank == rank) (other == place) apart)
      ∙ or-false (has_mark (marks_in old) other_rank other);
  ranks = λ other_rank has. elim (or_cases (has_mark (marks_in old) other_rank place) (other_rank == rank && place == place) (sym (more other_rank place) ∙ has)) [
    | inl was ↦ inr was
    | inr same ↦ inl (eqb-true other_rank rank (and_parts (other_rank == rank) (place == place) same).0)
  ];
} where
  rank : ℕ
  rank = mark.0.rank

  place : ℕ
  place = mark.0.place

  more : (other_rank other : ℕ) → has_mark (marks_in new) other_rank other ≡ (has_mark (marks_in old) other_rank other || (other_rank == rank && other == place))
  more other_rank other = has_more old new mark moved other_rank other

-- its place had none
pub pushed_once : (old new : List (Reverse Mark)) (mark : Reverse Mark) → IsPermutation (mark ∷ old) new → is_among (mark.0.place) (places_in old) ≡ false → IsDistinct nat_eq (places_in old) → IsDistinct nat_eq (places_in new)
pushed_once old new mark moved fresh once = distinct_more (mark.0.place) (places_in old) (places_in new) (places_moved (mark ∷ old) new moved) fresh once

pub pushed_places : (old new : List (Reverse Mark)) (mark : Reverse Mark) → IsPermutation (mark ∷ old) new → (place : ℕ) → is_among place (places_in new) ≡ (is_among place (places_in old) || place == mark.0.place)
pushed_places old new mark moved place = among_moved (places_in (mark ∷ old)) (places_in new) (places_moved (mark ∷ old) new moved) place ∙ or_turned (place == mark.0.place) (is_among place (places_in old))

-- ---- another rank of a place

-- a mark takes the place of one that the test cannot tell from it
any_set : (test : Reverse Mark → Bool) (items : List (Reverse Mark)) (at : ℕ) (mark : Reverse Mark) → at < length items → ((d : Reverse Mark) → test mark ≡ test (get_or items at d)) → list_any test (set items at mark) ≡ list_any test items
any_set test [] at mark within same = absurd (omega arith)
any_set test (first ∷ items) zero mark within same = ap (λ b. b || list_any test items) (same first)
any_set test (first ∷ items) (suc at) mark within same = ap (λ b. test first || b) (any_set test items at mark (omega arith) same)

-- one that passes the test is put in, or was there, or it passed before
any_put : (test : Reverse Mark → Bool) (items : List (Reverse Mark)) (at : ℕ) (mark : Reverse Mark) → at < length items → test mark ≡ true → list_any test (set items at mark) ≡ true
any_put test [] at mark within passes = absurd (omega arith)
any_put test (first ∷ items) zero mark within passes = or_left (test mark) (list_any test items) passes
any_put test (first ∷ items) (suc at) mark within passes = or_right (test first) (list_any test (set items at mark)) (any_put test items at mark (omega arith) passes)

any_either : (test : Reverse Mark → Bool) (items : List (Reverse Mark)) (at : ℕ) (mark : Reverse Mark) → list_any test (set items at mark) ≡ true → (test mark ≡ true) ⊎ (list_any test items ≡ true)
any_either test [] at mark any = inr any
any_either test (first ∷ items) zero mark any = elim (or_cases (test mark) (list_any test items) any) [ inl here ↦ inl here | inr later ↦ inr (or_right (test first) (list_any test items) later) ]
any_either test (first ∷ items) (suc at) mark any = elim (or_cases (test first) (list_any test (set items at mark)) any) [
  | inl here ↦ inr (or_left (test first) (list_any test items) here)
  | inr later ↦ elim (any_either test items at mark later) [ inl put ↦ inl put | inr was ↦ inr (or_right (test first) (list_any test items) was) ]
]

module _ (items new : List (Reverse Mark)) (at : ℕ) (mark held : Reverse Mark) (within : at < length items) (is : held ≡ get_or items at held) (same : held.0.place ≡ mark.0.place) (moved : IsPermutation (set items at mark) new) where
  its_place : (d : Reverse Mark) → (get_or items at d).0.place ≡ mark.0.place
  its_place d = ap (λ (it : Reverse Mark). it.0.place) (get_or_default items at d held within ∙ sym is) ∙ same

  now : (rank place : ℕ) → has_mark (marks_in new) rank place ≡ list_any (is_mark rank place) (set items at mark)
  now rank place = same_permuted (set items at mark) new moved rank place ∙ has_in rank place (set items at mark)

  elsewhere : (place spot : ℕ) → (place == mark.0.place) ≡ false → spot ≡ mark.0.place → (spot == place) ≡ false
  elsewhere place spot apart own = false_unless (spot == place) (λ equal. true≢false (sym (eq-eqb place (mark.0.place) (sym (eqb-true spot place equal) ∙ own)) ∙ apart))

  pub ranked : IsMarkedAs (marks_in items) (marks_in new) (mark.0.rank) (mark.0.place)
  ranked = record {
    here = now (mark.0.rank) (mark.0.place) ∙ any_put (is_mark (mark.0.rank) (mark.0.place)) items at mark within (own_mark mark);
    others = λ rank place apart.
        now rank place
        ∙ any_set (is_mark rank place) items at mark within (λ d.
        and_right (mark.0.rank == rank) (mark.0.place == place) (elsewhere place (mark.0.place) apart refl)
        ∙ sym (and_right ((get_or items at d).0.rank == rank) ((get_or items at d).0.place == place) (elsewhere place ((get_or items at d).0.place) apart (its_place d))))
        ∙ sym (has_in rank place items);
    ranks = λ rank has. elim (any_either (is_mark rank (mark.0.place)) items at mark (sym (now rank (mark.0.place)) ∙ has)) [
      | inl put ↦ inl (sym (eqb-true (mark.0.rank) rank (and_parts (mark.0.rank == rank) (mark.0.place == mark.0.place) put).0))
      | inr was ↦ inr (has_in rank (mark.0.place) items ∙ was)
    ];
  }

  pub ranked_places : IsPermutation (places_in items) (places_in new)
  ranked_places =
      subst (λ places. IsPermutation places (places_in new))
      (ap (map place_of) (map-set pair_of items at mark) ∙ map-set_same place_of (marks_in items) at (pair_of mark) (pair_of mark) (sym (ap place_of (get_or-map pair_of items at mark (pair_of mark) within) ∙ its_place mark)))
      (places_moved (set items at mark) new moved)

-- the mark is there
pub unchanged : (marks : List (ℕ × ℕ)) (rank place : ℕ) → has_mark marks rank place ≡ true → IsMarkedAs marks marks rank place
unchanged marks rank place has = record { here = has; others = λ other_rank other apart. refl; ranks = λ other_rank was. inr was }

-- ---- the places of the marks, one by one

module _ (slice items : List (Reverse Mark)) (same : slice ≡ items) (at : ℕ) (d : Reverse Mark) (inside : at < length slice) where
  within : at < length items
  within = subst (λ (xs : List (Reverse Mark)). at < length xs) same inside

  long : at < length (places_in items)
  long = let first : length (marks_in items) ≡ length items = length-map items pair_of in let second : length (places_in items) ≡ length (marks_in items) = length-map (marks_in items) place_of in let inside = within in omega arith

  place_at : get_or (places_in items) at 0 ≡ (get_or slice at d).0.place
  place_at =
      get_or-map place_of (marks_in items) at (pair_of d) 0 (let first : length (marks_in items) ≡ length items = length-map items pair_of in let inside = within in omega arith)
      ∙ ap place_of (get_or-map pair_of items at d (pair_of d) within)
      ∙ ap (λ (xs : List (Reverse Mark)). (get_or xs at d).0.place) (sym same)

  pub inserted_next : (was mid more : ℕ → Bool) → ((place : ℕ) → was place ≡ is_among place (take at (places_in items))) → ((place : ℕ) → mid place ≡ was place)
      → ((place : ℕ) → more place ≡ (mid place || place == (get_or slice at d).0.place)) → (place : ℕ) → more place ≡ is_among place (take (at + 1) (places_in items))
  inserted_next was mid more before kept added place =
      added place
      ∙ ap (λ b. b || place == (get_or slice at d).0.place) (kept place ∙ before place)
      ∙ ap (λ x. is_among place (take at (places_in items)) || place == x) (sym place_at)
      ∙ sym (among_more place at (places_in items) long)

  -- a mark of another place
  pub apart_next : (place : ℕ) → is_among place (take at (places_in items)) ≡ false → ((get_or slice at d).0.place ≡ place → ⊥) → is_among place (take (at + 1) (places_in items)) ≡ false
  apart_next place before differs =
      among_more place at (places_in items) long
      ∙ or_from (is_among place (take at (places_in items))) (place == get_or (places_in items) at 0) before (ne_eqb place (get_or (places_in items) at 0) (λ same. differs (sym place_at ∙ sym same)))

  pub removed_next : (was less : ℕ → Bool) → ((place : ℕ) → was place ≡ true → is_among place (drop at (places_in items)) ≡ true)
      → ((place : ℕ) → less place ≡ (was place && not (place == (get_or slice at d).0.place))) → (place : ℕ) → less place ≡ true → is_among place (drop (at + 1) (places_in items)) ≡ true
  removed_next was less before taken place yet =
      let (here, apart) = and_parts (was place) (not (place == (get_or slice at d).0.place)) (sym (taken place) ∙ yet) in
      let among : is_among place (get_or (places_in items) at 0 ∷ drop (suc at) (places_in items)) ≡ true = ap (is_among place) (sym (drop-cons (places_in items) at 0 long)) ∙ before place here in
      elim (or_cases (place == get_or (places_in items) at 0) (is_among place (drop (suc at) (places_in items))) among) [
        | inl equal ↦ absurd (true≢false (sym (ap (λ x. place == x) (sym place_at) ∙ equal) ∙ not-true (place == (get_or slice at d).0.place) apart))
        | inr later ↦ let next : suc at ≡ at + 1 = omega arith in subst (λ i. is_among place (drop i (places_in items)) ≡ true) next later
      ]

-- ---- the first mark is removed

module _ (old new : List (Reverse Mark)) (mark : Reverse Mark) (moved : IsPermutation old (mark ∷ new)) (once : IsDistinct nat_eq (places_in old)) where
  pub popped_once : IsDistinct nat_eq (places_in new)
  popped_once = distinct_less (mark.0.place) (places_in old) (places_in new) (places_moved old (mark ∷ new) moved) once

  gone : is_among (mark.0.place) (places_in new) ≡ false
  gone = gone_less (mark.0.place) (places_in old) (places_in new) (places_moved old (mark ∷ new) moved) once

  pub popped_places : (place : ℕ) → is_among place (places_in new) ≡ (is_among place (places_in old) && not (place == mark.0.place))
  popped_places place =
      alone (is_among place (places_in new)) (place == mark.0.place) (λ same. ap (λ x. is_among x (places_in new)) (eqb-true place (mark.0.place) same) ∙ gone)
      ∙ sym (or_apart (place == mark.0.place) (is_among place (places_in new)))
      ∙ ap (λ b. b && not (place == mark.0.place)) (among_moved (places_in old) (places_in (mark ∷ new)) (places_moved old (mark ∷ new) moved) place)

  pub popped : IsUpperBound heap_cmp mark old → IsPopped (marks_in old) (marks_in new) (mark.0.rank) (mark.0.place)
  popped low = record {
    here = has_one old new mark moved (mark.0.rank) (mark.0.place) ∙ or_left (mark.0.rank == mark.0.rank && mark.0.place == mark.0.place) (has_mark (marks_in new) (mark.0.rank) (mark.0.place)) (own_mark mark);
    least = bottom mark old low;
    rest = λ rank place.
        alone (has_mark (marks_in new) rank place) (rank == mark.0.rank && place == mark.0.place)
        (λ same. false_unless (has_mark (marks_in new) rank place) (λ has.
        false≢true (sym gone ∙ ap (λ x. is_among x (places_in new)) (sym (eqb-true place (mark.0.place) (and_parts (rank == mark.0.rank) (place == mark.0.place) same).1)) ∙ mark_place (marks_in new) rank place has)))
        ∙ sym (or_apart (rank == mark.0.rank && place == mark.0.place) (has_mark (marks_in new) rank place))
        ∙ ap (λ b. b && not (rank == mark.0.rank && place == mark.0.place)) (sym (has_one old new mark moved rank place));
    fewer = let before : length (marks_in old) ≡ length old = many old in let after : length (marks_in new) ≡ length new = many new in let one : length (mark ∷ new) ≡ length old = length_permutation old (mark ∷ new) moved in omega arith;
  } where
    many : (items : List (Reverse Mark)) → length (marks_in items) ≡ length items
    many [] = refl
    many (item ∷ items) = let rest = many items in omega arith

-- ---- what is stored

-- no marks
pub none_stored : (items : List (Reverse Mark)) (set : Option (List ℕ)) → items ≡ [] → IsHeap heap_cmp items → IfSome set (IsSetOf []) → AreStored items set
none_stored items set none order places = record {
  order = order;
  once = subst (λ (xs : List (Reverse Mark)). IsDistinct nat_eq (places_in xs)) (sym none) distinct_none;
  places = subst (λ (xs : List (Reverse Mark)). IfSome set (IsSetOf xs)) (sym none) places;
}

set_moved : (old new : List (Reverse Mark)) → ((place : ℕ) → is_among place (places_in new) ≡ is_among place (places_in old)) → (set : Option (List ℕ)) → IfSome set (IsSetOf old) → IfSome set (IsSetOf new)
set_moved old new same None places = tt
set_moved old new same (Some words) places = λ place. places place ∙ sym (same place)

-- other ranks of the same places
pub stored_moved : (old new : List (Reverse Mark)) (set : Option (List ℕ)) → AreStored old set → IsHeap heap_cmp new → IsPermutation (places_in old) (places_in new) → AreStored new set
stored_moved old new set stored order moved = record {
  order = order;
  once = distinct_moved (places_in old) (places_in new) moved stored.once;
  places = set_moved old new (among_moved (places_in old) (places_in new) moved) set stored.places;
}

set_with : (old new : List (Reverse Mark)) (mark : Reverse Mark) → IsPermutation (mark ∷ old) new → (set : Option (List ℕ)) → IfSome set (IsSetWith old (mark.0.place)) → IfSome set (IsSetOf new)
set_with old new mark moved None places = tt
set_with old new mark moved (Some words) places = λ place. places place ∙ sym (pushed_places old new mark moved place)

pub stored_more : (old new : List (Reverse Mark)) (mark : Reverse Mark) (before set : Option (List ℕ)) → AreStored old before → is_among (mark.0.place) (places_in old) ≡ false → IsPermutation (mark ∷ old) new → IsHeap heap_cmp new
    → (IfSome before (IsSetOf old) → IfSome set (IsSetWith old (mark.0.place))) → AreStored new set
stored_more old new mark before set stored fresh moved order told = record {
  order = order;
  once = pushed_once old new mark moved fresh stored.once;
  places = set_with old new mark moved set (told stored.places);
}

set_without : (old new : List (Reverse Mark)) (mark : Reverse Mark) → IsPermutation old (mark ∷ new) → IsDistinct nat_eq (places_in old) → (set : Option (List ℕ)) → IfSome set (IsSetWithout old (mark.0.place)) → IfSome set (IsSetOf new)
set_without old new mark moved once None places = tt
set_without old new mark moved once (Some words) places = λ place. places place ∙ sym (popped_places old new mark moved once place)

pub stored_less : (old new : List (Reverse Mark)) (mark : Reverse Mark) (before set : Option (List ℕ)) → AreStored old before → IsPermutation old (mark ∷ new) → IsHeap heap_cmp new
    → (IfSome before (IsSetOf old) → IfSome set (IsSetWithout old (mark.0.place))) → AreStored new set
stored_less old new mark before set stored moved order told = record {
  order = order;
  once = popped_once old new mark moved stored.once;
  places = set_without old new mark moved stored.once set (told stored.places);
}

-- ---- a whole level

pub all_of_rank : (items : List (Reverse Mark)) (rank : ℕ) → list_all (has_rank rank) items ≡ true → HaveRank (marks_in items) rank
all_of_rank [] rank all other_rank place has = absurd (false≢true has)
all_of_rank (mark ∷ items) rank all other_rank place has =
    let (here, later) = and_parts (has_rank rank mark) (list_all (has_rank rank) items) all in
    elim (or_cases (is_mark other_rank place mark) (has_mark (marks_in items) other_rank place) has) [
      | inl same ↦ sym (eqb-true (mark.0.rank) other_rank (and_parts (mark.0.rank == other_rank) (mark.0.place == place) same).0) ∙ eqb-true (mark.0.rank) rank here
      | inr among ↦ all_of_rank items rank later other_rank place among
    ]

-- the places of marks of one rank are marked with it
among_places : (marks : List (ℕ × ℕ)) (rank place : ℕ) → HaveRank marks rank → is_among place (map place_of marks) ≡ has_mark marks rank place
among_places [] rank place have = refl
among_places (mark ∷ marks) rank place have =
    let own : mark.0 ≡ rank = have mark.0 mark.1 (or_left (mark.0 == mark.0 && mark.1 == mark.1) (has_mark marks mark.0 mark.1) (and_from (mark.0 == mark.0) (mark.1 == mark.1) (eq-eqb mark.0 mark.0 refl) (eq-eqb mark.1 mark.1 refl))) in
    ap (λ b. b || is_among place (map place_of marks)) (same_tests (place == mark.1) (mark.0 == rank && mark.1 == place)
    (λ same. and_from (mark.0 == rank) (mark.1 == place) (eq-eqb mark.0 rank own) (eq-eqb mark.1 place (sym (eqb-true place mark.1 same))))
    (λ both. eq-eqb place mark.1 (sym (eqb-true mark.1 place (and_parts (mark.0 == rank) (mark.1 == place) both).1))))
    ∙ ap (λ b. (mark.0 == rank && mark.1 == place) || b) (among_places marks rank place (λ other_rank other has. have other_rank other (or_right (mark.0 == other_rank && mark.1 == other) (has_mark marks other_rank other) has)))

module _ (marks : List (ℕ × ℕ)) (rank : ℕ) (level : List ℕ) (have : HaveRank marks rank) (moved : IsPermutation (map place_of marks) level) where
  -- as places of the level
  among_level : (place : ℕ) → is_among place level ≡ has_mark marks rank place
  among_level place = among_moved (map place_of marks) level moved place ∙ among_places marks rank place have

  pub whole_level : AllPairs (λ one other. one < other) level → (ranks : ℕ → ℕ) → AreMarks ranks marks → IsLevel ranks (is_marked ranks marks) level (is_marked ranks [])
  whole_level ascends ranks are = record {
    split = λ place.
        same_tests (is_marked ranks marks place) (is_among place level || false)
        (λ has. or_left (is_among place level) false (among_level place ∙ subst (λ r. has_mark marks r place ≡ true) (have (ranks place) place has) has))
        (λ among. elim (or_cases (is_among place level) false among) [
          | inl here ↦ let has : has_mark marks rank place ≡ true = sym (among_level place) ∙ here in subst (λ r. has_mark marks r place ≡ true) (are rank place has) has
          | inr none ↦ absurd (false≢true none)
        ]);
    least = rank;
    level_rank = λ place among. sym (are rank place (sym (among_level place) ∙ among));
    above_rank = λ place has. absurd (false≢true has);
    ascends = ascends;
  }

  pub some_level : IsLeastRank marks rank → 0 < length level
  some_level least = any_some least.0.0 level (among_level least.0.0 ∙ least.0.1) where
    any_some : (place : ℕ) (places : List ℕ) → is_among place places ≡ true → 0 < length places
    any_some place [] among = absurd (false≢true among)
    any_some place (x ∷ xs) among = omega arith
