-- The numbers of pairs, by their clocks, and those that are coming.
use Rattle.std.proofs.Common.{◌≡◌, ℕ, suc, zero, ◌+◌, ◌<◌, inl, inr, List, [], ◌∷◌, ◌++◌, Bool, true, false, cond, eqb, get_or, length, take, Some, refl, sym, ap, ◌∙◌, arith}
use Rattle.std.specs.Prelude.{◌||◌, IsPermutation, Vec, filter, nat_eq, option_to_list, slice_get}
use Rattle.std.specs.BinaryHeap.{IsHeap}
use Rattle.std.specs.List.{list_any, range_with_len}
use Rattle.std.specs.declared.alloc.Global.{Global}
use Rattle.std.specs.declared.cmp.Reverse.{Reverse}
use Rattle.std.proofs.lemmas.Bool.{cases_eq, cond-false, cond-true, eq-eqb, eqb-true, ne_eqb}
use Rattle.std.proofs.lemmas.List.{append-nil, length_push, take_more}
use Rattle.std.proofs.lemmas.List.Folds.{list_any-append}
use Rattle.std.proofs.lemmas.List.Sorted.{length_permutation, list_any-IsPermutation}
use Rattle.trace_relations.specs.declared.clocks.Pair.{Pair}
use Rattle.trace_relations.specs.KeptMoves.{HasPairs, HaveJoined, coming_cmp, has_number, is_of, numbers_at, touches}

or_none : (b : Bool) → (b || false) ≡ b
or_none true = refl
or_none false = refl

-- ---- numbers that are coming

pub none_joined : (numbers : List ℕ) (coming : List (Reverse ℕ)) → HaveJoined (take 0 numbers) coming coming
none_joined numbers coming = record { order = λ heap. heap; has = λ number. sym (or_none (has_number coming number)); count = omega arith }

or_last : (a b c : Bool) → (a || (b || c)) ≡ (b || (c || (a || false)))
or_last true true c = refl
or_last true false true = refl
or_last true false false = refl
or_last false true c = refl
or_last false false true = refl
or_last false false false = refl

pub one_joined : (numbers : List ℕ) (i : ℕ) (top : Reverse ℕ) (old between new : List (Reverse ℕ)) → i < length numbers → top.0 ≡ get_or numbers i 0 → HaveJoined (take i numbers) old between → IsPermutation (top ∷ between) new → (IsHeap coming_cmp between → IsHeap coming_cmp new)
    → HaveJoined (take (i + 1) numbers) old new
one_joined numbers i top old between new lt is before moved keeps =
    let more : take (i + 1) numbers ≡ take i numbers ++ top.0 ∷ [] = take_more numbers i 0 lt ∙ ap (λ n. take i numbers ++ n ∷ []) (sym is) in
    record {
      order = λ heap. keeps (before.order heap);
      has = λ number.
          sym (list_any-IsPermutation (λ (it : Reverse ℕ). nat_eq number it.0) (top ∷ between) new moved)
          ∙ ap (λ b. nat_eq number top.0 || b) (before.has number)
          ∙ or_last (nat_eq number top.0) (has_number old number) (list_any (nat_eq number) (take i numbers))
          ∙ ap (λ b. has_number old number || b) (sym (ap (list_any (nat_eq number)) more ∙ list_any-append (nat_eq number) (take i numbers) (top.0 ∷ [])));
      count =
          let long : length new ≡ suc (length between) = length_permutation (top ∷ between) new moved in
          let other : length (take (i + 1) numbers) ≡ length (take i numbers) + 1 = ap length more ∙ length_push (take i numbers) top.0 in
          omega (arith, before.count);
    }

-- ---- numbers by clocks

abbrev pub AreAdded : ℕ → ℕ → List (Vec ℕ Global) → List (Vec ℕ Global) → Type 0
AreAdded clock number old new = (other : ℕ) → numbers_at new other ≡ cond (eqb other clock) (numbers_at old other ++ number ∷ []) (numbers_at old other)

abbrev pub ArePaired : Pair → ℕ → List (Vec ℕ Global) → List (Vec ℕ Global) → Type 0
ArePaired pair number old new = (other : ℕ) → numbers_at new other ≡ cond (touches other pair) (numbers_at old other ++ number ∷ []) (numbers_at old other)

turned : (a b : ℕ) → eqb a b ≡ eqb b a
turned a b = elim (cases_eq a b) [
  | inl same ↦ eq-eqb a b same ∙ sym (eq-eqb b a (sym same))
  | inr apart ↦ ne_eqb a b apart ∙ sym (ne_eqb b a (λ e. apart (sym e)))
]

-- a pair of one clock alone
pub one_clock : (pair : Pair) (number : ℕ) (old new : List (Vec ℕ Global)) → pair.called ≡ pair.caller → AreAdded pair.caller number old new → ArePaired pair number old new
one_clock pair number old new same added = λ other.
    added other ∙ ap (λ b. cond b (numbers_at old other ++ number ∷ []) (numbers_at old other)) (turned other pair.caller ∙ sym (ap (λ clock. nat_eq pair.caller other || nat_eq clock other) same ∙ or_same (nat_eq pair.caller other)))
  where
    or_same : (b : Bool) → (b || b) ≡ b
    or_same true = refl
    or_same false = refl

or_true : (b : Bool) → (b || true) ≡ true
or_true true = refl
or_true false = refl

-- a pair of two
pub two_clocks : (pair : Pair) (number : ℕ) (old between new : List (Vec ℕ Global)) → (pair.called ≡ pair.caller → ⊥) → AreAdded pair.caller number old between → AreAdded pair.called number between new → ArePaired pair number old new
two_clocks pair number old between new apart first second = λ other. second other ∙ by_test other (eqb pair.called other) refl
  where
    by_test : (other : ℕ) (b : Bool) → eqb pair.called other ≡ b → cond (eqb other pair.called) (numbers_at between other ++ number ∷ []) (numbers_at between other) ≡ cond (eqb pair.caller other || eqb pair.called other) (numbers_at old other ++ number ∷ []) (numbers_at old other)
    by_test other true is =
        let called_is : pair.called ≡ other = eqb-true pair.called other is in
        let here : eqb other pair.called ≡ true = turned other pair.called ∙ is in
        let not_caller : eqb other pair.caller ≡ false = ne_eqb other pair.caller (λ e. apart (called_is ∙ e)) in
        let either : (eqb pair.caller other || eqb pair.called other) ≡ true = ap (λ d. eqb pair.caller other || d) is ∙ or_true (eqb pair.caller other) in
        cond-true (eqb other pair.called) (numbers_at between other ++ number ∷ []) (numbers_at between other) here
        ∙ ap (λ those. those ++ number ∷ []) (first other ∙ cond-false (eqb other pair.caller) (numbers_at old other ++ number ∷ []) (numbers_at old other) not_caller)
        ∙ sym (cond-true (eqb pair.caller other || eqb pair.called other) (numbers_at old other ++ number ∷ []) (numbers_at old other) either)
    by_test other false is =
        let not_here : eqb other pair.called ≡ false = turned other pair.called ∙ is in
        let only : (eqb pair.caller other || eqb pair.called other) ≡ eqb pair.caller other = ap (λ d. eqb pair.caller other || d) is ∙ or_none (eqb pair.caller other) in
        cond-false (eqb other pair.called) (numbers_at between other ++ number ∷ []) (numbers_at between other) not_here
        ∙ first other
        ∙ ap (λ d. cond d (numbers_at old other ++ number ∷ []) (numbers_at old other)) (turned other pair.caller ∙ sym only)

-- ---- one pair after another

pub filter_last : (p : ℕ → Bool) (i n : ℕ) → filter p (range_with_len i (suc n)) ≡ filter p (range_with_len i n) ++ cond (p (i + n)) ((i + n) ∷ []) []
filter_last p i zero = let e : i ≡ i + 0 = omega arith in ap (λ k. cond (p k) (k ∷ []) []) e
filter_last p i (suc n) =
    let e : (i + 1) + n ≡ i + suc n = omega arith in
    ap (λ rest. cond (p i) (i ∷ rest) rest) (filter_last p (i + 1) n ∙ ap (λ k. filter p (range_with_len (i + 1) n) ++ cond (p k) (k ∷ []) []) e)
    ∙ pushed (p i) (filter p (range_with_len (i + 1) n)) (cond (p (i + suc n)) ((i + suc n) ∷ []) [])
  where
    pushed : (b : Bool) (xs ys : List ℕ) → cond b (i ∷ (xs ++ ys)) (xs ++ ys) ≡ cond b (i ∷ xs) xs ++ ys
    pushed true xs ys = refl
    pushed false xs ys = refl

pub pair_more : (pairs : List Pair) (number : ℕ) (pair : Pair) (old new : List (Vec ℕ Global)) → slice_get pairs number ≡ Some pair → ((clock : ℕ) → numbers_at old clock ≡ filter (is_of pairs clock) (range_with_len 0 number)) → ArePaired pair number old new
    → (clock : ℕ) → numbers_at new clock ≡ filter (is_of pairs clock) (range_with_len 0 (number + 1))
pair_more pairs number pair old new there so_far added clock =
    let e : suc number ≡ number + 1 = omega arith in
    let f : 0 + number ≡ number = omega arith in
    let test : is_of pairs clock number ≡ touches clock pair = ap (λ o. list_any (touches clock) (option_to_list o)) there ∙ or_none (touches clock pair) in
    added clock ∙ ap (λ those. cond (touches clock pair) (those ++ number ∷ []) those) (so_far clock)
    ∙ pushed (touches clock pair) (filter (is_of pairs clock) (range_with_len 0 number))
    ∙ ap (λ b. filter (is_of pairs clock) (range_with_len 0 number) ++ cond b (number ∷ []) []) (sym test)
    ∙ ap (λ k. filter (is_of pairs clock) (range_with_len 0 number) ++ cond (is_of pairs clock k) (k ∷ []) []) (sym f)
    ∙ sym (filter_last (is_of pairs clock) 0 number) ∙ ap (λ n. filter (is_of pairs clock) (range_with_len 0 n)) e
  where
    pushed : (b : Bool) (xs : List ℕ) → cond b (xs ++ number ∷ []) xs ≡ xs ++ cond b (number ∷ []) []
    pushed true xs = refl
    pushed false xs = sym (append-nil xs)

pub all_paired : (count number : ℕ) (pairs : List Pair) (all : List (Vec ℕ Global)) → number ≡ length pairs → ((clock : ℕ) → numbers_at all clock ≡ filter (is_of pairs clock) (range_with_len 0 number)) → HasPairs count pairs all
all_paired count number pairs all is so_far = λ clock lt. so_far clock ∙ ap (λ n. filter (is_of pairs clock) (range_with_len 0 n)) is
