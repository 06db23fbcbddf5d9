-- What pairs say of a clock, by their numbers.
use Rattle.std.proofs.Common.{◌≡◌, ℕ, suc, ◌+◌, ◌<◌, ℤ, List, [], ◌∷◌, Bool, true, false, cond, get_or, length, take, Option, Some, None, refl, sym, ap, ◌∙◌, arith}
use Rattle.std.specs.Prelude.{◌||◌, filter, nat_eq, option_to_list, slice_get}
use Rattle.std.specs.List.{list_any, range_with_len}
use Rattle.std.proofs.lemmas.Bool.{cond-false, or_parts}
use Rattle.std.proofs.lemmas.List.Sums.{fold_more}
use Rattle.trace_relations.specs.declared.clocks.Pair.{Pair}
use Rattle.trace_relations.specs.declared.clocks.Range.{Range}
use Rattle.trace_relations.specs.Clocks.{Moves, by_other, everything, higher, is_at_most, lower, narrowed, narrowed_by, of_called, of_caller, range_of, says_of}
use Rattle.trace_relations.specs.KeptMoves.{counts_as, is_of, narrowed_at, narrowed_by_numbers, numbers_of, touches}

-- ---- what says nothing

higher_none : (o : Option ℤ) → higher o None ≡ o
higher_none None = refl
higher_none (Some low) = refl

lower_none : (o : Option ℤ) → lower o None ≡ o
lower_none None = refl
lower_none (Some high) = refl

either_same : {X : Type 0} (b : Bool) (x y : X) → x ≡ y → cond b x y ≡ y
either_same true x y same = same
either_same false x y same = refl

abbrev range_with : Option ℤ → Option ℤ → Range
range_with low high = record { low = low; high = high }

stays : (range : Range) → narrowed range everything ≡ range
stays range =
    either_same (is_at_most (higher range.low None) (lower range.high None)) (range_with (higher range.low None) (lower range.high None)) range
    (ap (λ low. range_with low (lower range.high None)) (higher_none range.low) ∙ ap (λ high. range_with range.low high) (lower_none range.high))

untouched : (moves : Moves) (clock : ℕ) (pair : Pair) → touches clock pair ≡ false → says_of moves clock pair ≡ everything
untouched moves clock pair apart =
    let parts = or_parts (nat_eq pair.caller clock) (nat_eq pair.called clock) apart in
    cond-false (nat_eq pair.called clock) (by_other (of_called pair) (moves pair.caller)) (cond (nat_eq pair.caller clock) (by_other (of_caller pair) (moves pair.called)) everything) parts.1
    ∙ cond-false (nat_eq pair.caller clock) (by_other (of_caller pair) (moves pair.called)) everything parts.0

says_nothing : (moves : Moves) (clock : ℕ) (are_whole : Bool) (range : Range) (pair : Pair) → touches clock pair ≡ false → narrowed_at moves clock are_whole range (Some pair) ≡ range
says_nothing moves clock are_whole range pair apart =
    either_same (counts_as are_whole pair) (narrowed range (says_of moves clock pair)) range (ap (narrowed range) (untouched moves clock pair apart) ∙ stays range)

-- ---- pairs by their numbers

one_more : (moves : Moves) (clock : ℕ) (are_whole : Bool) (range : Range) (pair : Pair) (pairs : List Pair) → narrowed_by moves clock (filter (counts_as are_whole) (pair ∷ pairs)) range ≡ narrowed_by moves clock (filter (counts_as are_whole) pairs) (narrowed_at moves clock are_whole range (Some pair))
one_more moves clock are_whole range pair pairs = by_test (counts_as are_whole pair)
  where
    by_test : (b : Bool) → narrowed_by moves clock (cond b (pair ∷ filter (counts_as are_whole) pairs) (filter (counts_as are_whole) pairs)) range ≡ narrowed_by moves clock (filter (counts_as are_whole) pairs) (cond b (narrowed range (says_of moves clock pair)) range)
    by_test true = refl
    by_test false = refl

numbers_say : (moves : Moves) (clock : ℕ) (pairs : List Pair) (are_whole : Bool) (i : ℕ) (xs : List Pair) (range : Range) → ((k : ℕ) → slice_get pairs (i + k) ≡ slice_get xs k)
    → narrowed_by_numbers moves clock pairs (filter (is_of pairs clock) (range_with_len i (length xs))) are_whole range ≡ narrowed_by moves clock (filter (counts_as are_whole) xs) range
numbers_say moves clock pairs are_whole i [] range there = refl
numbers_say moves clock pairs are_whole i (x ∷ xs) range there =
    let e : i ≡ i + 0 = omega arith in
    let here : slice_get pairs i ≡ Some x = ap (slice_get pairs) e ∙ there 0 in
    let test : is_of pairs clock i ≡ (touches clock x || false) = ap (λ o. list_any (touches clock) (option_to_list o)) here in
    by_test (is_of pairs clock i) here (λ apart. (or_parts (touches clock x) false (sym test ∙ apart)).0)
    (λ so_far. numbers_say moves clock pairs are_whole (i + 1) xs so_far (λ k. let f : (i + 1) + k ≡ i + suc k = omega arith in ap (slice_get pairs) f ∙ there (suc k))) refl
    ∙ sym (one_more moves clock are_whole range x xs)
  where
    by_test : (b : Bool) → slice_get pairs i ≡ Some x → (is_of pairs clock i ≡ false → touches clock x ≡ false)
        → ((so_far : Range) → narrowed_by_numbers moves clock pairs (filter (is_of pairs clock) (range_with_len (i + 1) (length xs))) are_whole so_far ≡ narrowed_by moves clock (filter (counts_as are_whole) xs) so_far) → is_of pairs clock i ≡ b
        → narrowed_by_numbers moves clock pairs (cond b (i ∷ filter (is_of pairs clock) (range_with_len (i + 1) (length xs))) (filter (is_of pairs clock) (range_with_len (i + 1) (length xs)))) are_whole range ≡ narrowed_by moves clock (filter (counts_as are_whole) xs) (narrowed_at moves clock are_whole range (Some x))
    by_test true here apart later is =
        ap (λ o. narrowed_by_numbers moves clock pairs (filter (is_of pairs clock) (range_with_len (i + 1) (length xs))) are_whole (narrowed_at moves clock are_whole range o)) here ∙ later (narrowed_at moves clock are_whole range (Some x))
    by_test false here apart later is =
        later range ∙ ap (narrowed_by moves clock (filter (counts_as are_whole) xs)) (sym (says_nothing moves clock are_whole range x (apart is)))

all_say : (moves : Moves) (clock : ℕ) (pairs : List Pair) (numbers : List ℕ) (are_whole : Bool) (range : Range) → numbers ≡ numbers_of pairs clock → narrowed_by_numbers moves clock pairs numbers are_whole range ≡ narrowed_by moves clock (filter (counts_as are_whole) pairs) range
all_say moves clock pairs numbers are_whole range are =
    ap (λ those. narrowed_by_numbers moves clock pairs those are_whole range) are
    ∙ numbers_say moves clock pairs are_whole 0 pairs range (λ k. let e : 0 + k ≡ k = omega arith in ap (slice_get pairs) e)

-- what whole calls say, and then the others
pub range_by_numbers : (moves : Moves) (clock : ℕ) (pairs : List Pair) (numbers : List ℕ) (of_whole range : Range) → numbers ≡ numbers_of pairs clock → of_whole ≡ narrowed_by_numbers moves clock pairs numbers true everything → range ≡ narrowed_by_numbers moves clock pairs numbers false of_whole
    → range ≡ range_of moves clock pairs
range_by_numbers moves clock pairs numbers of_whole range are whole is =
    is ∙ all_say moves clock pairs numbers false of_whole are ∙ ap (narrowed_by moves clock (filter (counts_as false) pairs)) (whole ∙ all_say moves clock pairs numbers true everything are)

-- ---- one number after another

pub narrowed_more : (moves : Moves) (clock : ℕ) (pairs : List Pair) (numbers : List ℕ) (i number : ℕ) (are_whole : Bool) (first before after : Range) → i < length numbers → number ≡ get_or numbers i 0 → before ≡ narrowed_by_numbers moves clock pairs (take i numbers) are_whole first
    → after ≡ narrowed_at moves clock are_whole before (slice_get pairs number) → after ≡ narrowed_by_numbers moves clock pairs (take (i + 1) numbers) are_whole first
narrowed_more moves clock pairs numbers i number are_whole first before after lt is so_far now =
    now ∙ ap (λ range. narrowed_at moves clock are_whole range (slice_get pairs number)) so_far
    ∙ ap (λ k. narrowed_at moves clock are_whole (narrowed_by_numbers moves clock pairs (take i numbers) are_whole first) (slice_get pairs k)) is
    ∙ sym (fold_more (λ (range : Range) (k : ℕ). narrowed_at moves clock are_whole range (slice_get pairs k)) first numbers i 0 lt)
