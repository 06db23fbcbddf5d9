-- Clocks that are placed one after another.
use Rattle.std.proofs.Common.{◌≡◌, ℕ, suc, zero, ◌+◌, ◌*◌, ◌-◌, ◌^◌, ◌<◌, ◌≤◌, inl, inr, ℤ, List, [], ◌∷◌, Bool, true, false, cond, eqb, get_or, length, set, Option, Some, None, refl, sym, ap, ◌∙◌, subst, arith}
use Rattle.std.specs.Prelude.{◌||◌, All, IfSome, IsPermutation, MatchOption, filter, find, is_none, is_some, nat_eq, option_and_then, option_to_list, slice_get}
use Rattle.std.specs.BinaryHeap.{IsHeap, IsUpperBound}
use Rattle.std.specs.List.{list_any, range_with_len}
use Rattle.std.specs.Ordering.{is_lt, nat_cmp}
use Rattle.std.specs.declared.cmp.Reverse.{Reverse}
use Rattle.std.proofs.lemmas.Bool.{cases_Bool, cond-false, cond-true, eq-eqb, eqb-true, false≢true, ne_eqb, or_cases, or_left, or_parts, or_right, true≢false}
use Rattle.std.proofs.lemmas.Bool.Decides.{nat_tests}
use Rattle.std.proofs.lemmas.List.{length-set}
use Rattle.std.proofs.lemmas.List.Elements.{All-get_or, All-set}
use Rattle.std.proofs.lemmas.List.FromFn.{length-range_with_len}
use Rattle.std.proofs.lemmas.List.Sorted.{length_permutation, list_any-IsPermutation}
use Rattle.std.proofs.lemmas.List.Sums.{count_by-le-length, length-filter, sum_by-set}
use Rattle.std.proofs.lemmas.Option.{cond_some, none-some, option_and_then_some, same_Some, slice_get-get_or, slice_get_within, unwrap_or-slice_get}
use mathlib.Core.Path.{fun_ext}
use Rattle.trace_relations.specs.declared.clocks.Pair.{Pair}
use Rattle.trace_relations.specs.Clocks.{Moves, is_next, move_in, placed, placed_next, range_of, unplaced, with_move, with_next}
use Rattle.trace_relations.specs.KeptMoves.{AreMovesWithin, HasPlacedBy, HaveJoined, IsAtMost, IsPairAmong, IsSaid, Stand, coming_cmp, has_number, is_of, moves_in, next_clock, numbers_of, placed_count, touches}
use Rattle.trace_relations.proofs.Gets.{value-set}
use Rattle.trace_relations.proofs.Moving.{all_said, at_most_more, move_within, moves_at, moves_more}

-- ---- numbers

pub any_filtered : (p : ℕ → Bool) (x : ℕ) (xs : List ℕ) → p x ≡ true → list_any (nat_eq x) (filter p xs) ≡ list_any (nat_eq x) xs
any_filtered p x [] passes = refl
any_filtered p x (y ∷ ys) passes = by_test (p y) refl (any_filtered p x ys passes)
  where
    apart : (b : Bool) → p y ≡ false → nat_eq x y ≡ b → b ≡ false
    apart true fails same = absurd (true≢false (sym passes ∙ ap p (eqb-true x y same) ∙ fails))
    apart false fails same = refl

    by_test : (b : Bool) → p y ≡ b → list_any (nat_eq x) (filter p ys) ≡ list_any (nat_eq x) ys → list_any (nat_eq x) (cond b (y ∷ filter p ys) (filter p ys)) ≡ (nat_eq x y || list_any (nat_eq x) ys)
    by_test true is rest = ap (λ c. nat_eq x y || c) rest
    by_test false is rest = rest ∙ ap (λ b. b || list_any (nat_eq x) ys) (sym (apart (nat_eq x y) is refl))

pub range_has : (a n x : ℕ) → a ≤ x → x < a + n → list_any (nat_eq x) (range_with_len a n) ≡ true
range_has a zero x from until = absurd (omega arith)
range_has a (suc n) x from until = elim (cases_Bool (nat_eq x a)) [
  | inl same ↦ or_left (nat_eq x a) (list_any (nat_eq x) (range_with_len (a + 1) n)) same
  | inr other ↦
      let ne : x ≡ a → ⊥ = λ e. true≢false (sym (eq-eqb x a e) ∙ other) in
      or_right (nat_eq x a) (list_any (nat_eq x) (range_with_len (a + 1) n)) (range_has (a + 1) n x (omega arith) (omega arith))
]

-- the number of a pair that a clock is in is among those of the clock
pub number_known : (pairs : List Pair) (clock number : ℕ) (pair : Pair) → slice_get pairs number ≡ Some pair → touches clock pair ≡ true → list_any (nat_eq number) (numbers_of pairs clock) ≡ true
number_known pairs clock number pair is there =
    let within : number < length pairs = slice_get_within pairs number pair is in
    any_filtered (is_of pairs clock) number (range_with_len 0 (length pairs)) (ap (λ o. list_any (touches clock) (option_to_list o)) is ∙ or_left (touches clock pair) false there)
    ∙ range_has 0 (length pairs) number (omega arith) (omega arith)

pub numbers_few : (pairs : List Pair) (clock : ℕ) → length (numbers_of pairs clock) ≤ length pairs
numbers_few pairs clock = omega (arith, length-filter (is_of pairs clock) (range_with_len 0 (length pairs)), count_by-le-length (is_of pairs clock) (range_with_len 0 (length pairs)), length-range_with_len 0 (length pairs))

-- ---- one clock is placed

pub set_is_with : (moves : List (Option ℤ)) (clock : ℕ) (by : ℤ) → clock < length moves → moves_in (set moves clock (Some by)) ≡ with_move (moves_in moves) clock by
set_is_with moves clock by lt = fun_ext (λ other. value-set moves clock (Some by) None lt other)

pub move_kept : (moves : List (Option ℤ)) (clock other : ℕ) (by : ℤ) → clock < length moves → nat_eq other clock ≡ false → moves_in (set moves clock (Some by)) other ≡ moves_in moves other
move_kept moves clock other by lt apart = value-set moves clock (Some by) None lt other ∙ cond-false (eqb other clock) (Some by) (moves_in moves other) apart

pub move_set : (moves : List (Option ℤ)) (clock other : ℕ) (by : ℤ) → clock < length moves → nat_eq other clock ≡ true → moves_in (set moves clock (Some by)) other ≡ Some by
move_set moves clock other by lt same = value-set moves clock (Some by) None lt other ∙ cond-true (eqb other clock) (Some by) (moves_in moves other) same

abbrev one_if : Option ℤ → ℕ
one_if by = cond (is_some by) 1 0

pub count_set : (moves : List (Option ℤ)) (clock : ℕ) (by : ℤ) → clock < length moves → moves_in moves clock ≡ None → placed_count (set moves clock (Some by)) ≡ placed_count moves + 1
count_set moves clock by lt none =
    let before : one_if (get_or moves clock None) ≡ 0 = ap one_if (sym (unwrap_or-slice_get moves clock None) ∙ none) in
    omega (arith, sum_by-set one_if moves clock (Some by) None lt)

next_same : (moves others : Moves) (pair : Pair) → others pair.caller ≡ moves pair.caller → others pair.called ≡ moves pair.called → is_next others pair ≡ is_next moves pair
next_same moves others pair caller called =
    ap (λ o. cond (is_some o) (is_none (others pair.called)) (is_some (others pair.called))) caller
    ∙ ap (λ o. cond (is_some (moves pair.caller)) (is_none o) (is_some o)) called

turned : (a b : ℕ) → nat_eq a b ≡ false → nat_eq b a ≡ false
turned a b apart = ne_eqb b a (λ e. true≢false (sym (eq-eqb a b (sym e)) ∙ apart))

-- with a clock more, those pairs are coming that may have one clock alone that is placed
pub one_placed : (pairs : List Pair) (count clock : ℕ) (moves : List (Option ℤ)) (rest new : List (Reverse ℕ)) (by : ℤ) → length moves ≡ count → clock < count → moves_in moves clock ≡ None
    → AreMovesWithin (placed_count moves * 2 ^ 64) moves → IsAtMost (placed_count moves * 2 ^ 64 + 2 ^ 64) by → IsHeap coming_cmp rest → HaveJoined (numbers_of pairs clock) rest new
    → ((number : ℕ) (pair : Pair) → slice_get pairs number ≡ Some pair → is_next (moves_in moves) pair ≡ true → touches clock pair ≡ false → has_number rest number ≡ true)
    → Stand pairs count (set moves clock (Some by)) new
one_placed pairs count clock moves rest new by long lt none within at heap joined others =
    let here : clock < length moves = omega arith in
    let more : placed_count (set moves clock (Some by)) ≡ placed_count moves + 1 = count_set moves clock by here none in
    record {
      long = length-set moves clock (Some by) ∙ long;
      within = All-set (λ each. IfSome each (IsAtMost (placed_count (set moves clock (Some by)) * 2 ^ 64))) moves clock (Some by) (at_most_more (placed_count moves * 2 ^ 64 + 2 ^ 64) (placed_count (set moves clock (Some by)) * 2 ^ 64) by (omega arith) at)
          (moves_more (placed_count moves * 2 ^ 64) (placed_count (set moves clock (Some by)) * 2 ^ 64) moves (omega arith) within);
      order = joined.order heap;
      has = λ number pair is next. joined.has number ∙ elim (cases_Bool (touches clock pair)) [
        | inl there ↦ or_right (has_number rest number) (list_any (nat_eq number) (numbers_of pairs clock)) (number_known pairs clock number pair is there)
        | inr apart ↦
            let parts = or_parts (nat_eq pair.caller clock) (nat_eq pair.called clock) apart in
            let same : is_next (moves_in (set moves clock (Some by))) pair ≡ is_next (moves_in moves) pair =
            next_same (moves_in moves) (moves_in (set moves clock (Some by))) pair (move_kept moves clock pair.caller by here parts.0) (move_kept moves clock pair.called by here parts.1) in
            or_left (has_number rest number) (list_any (nat_eq number) (numbers_of pairs clock)) (others number pair is (sym same ∙ next) apart)
      ];
    }

-- ---- a pair of which one clock alone is placed

none_if : (o : Option ℤ) → is_none o ≡ true → o ≡ None
none_if None e = refl
none_if (Some by) e = absurd (false≢true e)

none_unless : (o : Option ℤ) → is_some o ≡ false → o ≡ None
none_unless None e = refl
none_unless (Some by) e = absurd (true≢false e)

unplaced_by : (moves : Moves) (pair : Pair) (b : Bool) → is_some (moves pair.caller) ≡ b → cond b (is_none (moves pair.called)) (is_some (moves pair.called)) ≡ true
    → (moves (cond b pair.called pair.caller) ≡ None) × (touches (cond b pair.called pair.caller) pair ≡ true)
unplaced_by moves pair true is next = (none_if (moves pair.called) next, or_right (nat_eq pair.caller pair.called) (nat_eq pair.called pair.called) (eq-eqb pair.called pair.called refl))
unplaced_by moves pair false is next = (none_unless (moves pair.caller) is, or_left (nat_eq pair.caller pair.caller) (nat_eq pair.called pair.caller) (eq-eqb pair.caller pair.caller refl))

unplaced_is : (moves : Moves) (pair : Pair) → is_next moves pair ≡ true → (moves (unplaced moves pair) ≡ None) × (touches (unplaced moves pair) pair ≡ true)
unplaced_is moves pair next = unplaced_by moves pair (is_some (moves pair.caller)) refl next

either_among : (count : ℕ) (pair : Pair) (b : Bool) → IsPairAmong count pair → cond b pair.called pair.caller < count
either_among count pair true among = among.called
either_among count pair false among = among.caller

-- the pair of a number, of which one clock alone is placed
record IsNext (moves : Moves) (pairs : List Pair) (number clock : ℕ) : Type 0 where
  pair : Pair
  there : slice_get pairs number ≡ Some pair
  next : is_next moves pair ≡ true
  clock_is : unplaced moves pair ≡ clock

next_known : (moves : Moves) (pairs : List Pair) (number clock : ℕ) → next_clock moves pairs number ≡ Some clock → IsNext moves pairs number clock
next_known moves pairs number clock is =
    option_and_then_some (λ pair. cond (is_next moves pair) (Some (unplaced moves pair)) None) (slice_get pairs number) clock is
    (λ pair there known. let both = cond_some (is_next moves pair) (unplaced moves pair) clock known in record { pair = pair; there = there; next = both.0; clock_is = both.1 })

next_is : (moves : Moves) (pairs : List Pair) (number : ℕ) (pair : Pair) → slice_get pairs number ≡ Some pair → is_next moves pair ≡ true → next_clock moves pairs number ≡ Some (unplaced moves pair)
next_is moves pairs number pair there next =
    ap (λ o. option_and_then (λ each. cond (is_next moves each) (Some (unplaced moves each)) None) o) there ∙ cond-true (is_next moves pair) (Some (unplaced moves pair)) None next

pub pair_among : (count : ℕ) (pairs : List Pair) (number : ℕ) (pair : Pair) → All (IsPairAmong count) pairs → slice_get pairs number ≡ Some pair → IsPairAmong count pair
pair_among count pairs number pair all is =
    let within : number < length pairs = slice_get_within pairs number pair is in
    subst (IsPairAmong count) (same_Some (get_or pairs number pair) pair (sym (slice_get-get_or pairs number pair within) ∙ is)) (All-get_or (IsPairAmong count) pairs number pair within all)

-- ---- a number is taken

popped : (coming rest : List (Reverse ℕ)) (top : Reverse ℕ) → IsPermutation coming (top ∷ rest) → (number : ℕ) → has_number coming number ≡ (nat_eq number top.0 || has_number rest number)
popped coming rest top moved number = list_any-IsPermutation (λ (it : Reverse ℕ). nat_eq number it.0) coming (top ∷ rest) moved

others_left : (a b : Bool) → (a || b) ≡ true → (a ≡ true → ⊥) → b ≡ true
others_left true b any not_first = absurd (not_first refl)
others_left false b any not_first = any

not_less : (a b : ℕ) → is_lt (nat_cmp a b) ≡ false → b ≤ a
not_less a b low = grind (arith, nat_tests)

least : (top : Reverse ℕ) (coming : List (Reverse ℕ)) → IsUpperBound coming_cmp top coming → (number : ℕ) → has_number coming number ≡ true → top.0 ≤ number
least top [] low number has = absurd (false≢true has)
least top (first ∷ coming) low number has = elim (or_cases (nat_eq number first.0) (has_number coming number) has) [
  | inl same ↦
      let e : number ≡ first.0 = eqb-true number first.0 same in
      let le : top.0 ≤ first.0 = not_less first.0 top.0 low.0 in
      omega arith
  | inr later ↦ least top coming low.1 number later
]

-- ---- one step

-- what a step is by
pub record IsStep (pairs : List Pair) (count : ℕ) (top : Reverse ℕ) (moves : List (Option ℤ)) (coming rest : List (Reverse ℕ)) : Type 0 where
  pub stand : Stand pairs count moves coming
  pub among : All (IsPairAmong count) pairs
  pub moved : IsPermutation coming (top ∷ rest)
  pub heap : IsHeap coming_cmp rest
  pub bound : IsUpperBound coming_cmp top coming

abbrev pub IsDone : List Pair → List (Option ℤ) → List (Reverse ℕ) → List (Option ℤ) → List (Reverse ℕ) → ℕ → Type 0
IsDone pairs moves rest new_moves new_rest clock = (new_moves ≡ set moves clock (Some (move_in (range_of (moves_in moves) clock pairs)))) × HaveJoined (numbers_of pairs clock) rest new_rest

stand_same : (pairs : List Pair) (count : ℕ) (top : Reverse ℕ) (moves : List (Option ℤ)) (coming rest : List (Reverse ℕ)) → IsStep pairs count top moves coming rest → next_clock (moves_in moves) pairs top.0 ≡ None → Stand pairs count moves rest
stand_same pairs count top moves coming rest step none = record {
  long = step.stand.long;
  within = step.stand.within;
  order = step.heap;
  has = λ number pair is next.
      others_left (nat_eq number top.0) (has_number rest number) (sym (popped coming rest top step.moved number) ∙ step.stand.has number pair is next)
      (λ same. none-some (unplaced (moves_in moves) pair) (sym none ∙ ap (λ k. next_clock (moves_in moves) pairs k) (sym (eqb-true number top.0 same)) ∙ next_is (moves_in moves) pairs number pair is next));
}

stand_more : (pairs : List Pair) (count : ℕ) (top : Reverse ℕ) (moves : List (Option ℤ)) (coming rest new_rest : List (Reverse ℕ)) (clock : ℕ) → IsStep pairs count top moves coming rest → IsNext (moves_in moves) pairs top.0 clock
    → HaveJoined (numbers_of pairs clock) rest new_rest → Stand pairs count (set moves clock (Some (move_in (range_of (moves_in moves) clock pairs)))) new_rest
stand_more pairs count top moves coming rest new_rest clock step next joined =
    let facts = unplaced_is (moves_in moves) next.pair next.next in
    let within : clock < count = subst (λ c. c < count) next.clock_is (either_among count next.pair (is_some (moves_in moves next.pair.caller)) (pair_among count pairs top.0 next.pair step.among next.there)) in
    let none : moves_in moves clock ≡ None = ap (moves_in moves) (sym next.clock_is) ∙ facts.0 in
    let there : touches clock next.pair ≡ true = ap (λ c. touches c next.pair) (sym next.clock_is) ∙ facts.1 in
    one_placed pairs count clock moves rest new_rest (move_in (range_of (moves_in moves) clock pairs)) step.stand.long within none step.stand.within
    (move_within (placed_count moves * 2 ^ 64) (moves_in moves) clock pairs (moves_at (placed_count moves * 2 ^ 64) moves step.stand.within) (all_said count pairs step.among)) step.heap joined
    (λ number pair is is_next_too apart.
    others_left (nat_eq number top.0) (has_number rest number) (sym (popped coming rest top step.moved number) ∙ step.stand.has number pair is is_next_too)
    (λ same.
    let one : pair ≡ next.pair = same_Some pair next.pair (sym is ∙ ap (slice_get pairs) (eqb-true number top.0 same) ∙ next.there) in
    true≢false (sym there ∙ ap (touches clock) (sym one) ∙ apart)))

-- ---- where steps lead

-- so many steps lead from some moves where fewer do from others
pub record Leads (pairs : List Pair) (n : ℕ) (first now : List (Option ℤ)) : Type 0 where
  pub steps : ℕ
  pub enough : length now ≤ steps + placed_count now
  pub same : placed pairs n (moves_in first) ≡ placed pairs steps (moves_in now)

pub LeadsOn : List Pair → List (Option ℤ) → List (Option ℤ) → Type 0
LeadsOn pairs first now = (n : ℕ) → length first ≤ n + placed_count first → Leads pairs n first now

pub leads_first : (pairs : List Pair) (first : List (Option ℤ)) → LeadsOn pairs first first
unfolding LeadsOn
leads_first pairs first = λ n enough. record { steps = n; enough = enough; same = refl }

find_first : (moves : Moves) (pairs : List Pair) (number : ℕ) (pair : Pair) → slice_get pairs number ≡ Some pair → is_next moves pair ≡ true → ((k : ℕ) (other : Pair) → k < number → slice_get pairs k ≡ Some other → is_next moves other ≡ false)
    → find (is_next moves) pairs ≡ Some pair
find_first moves [] number pair is next before = absurd (none-some pair is)
find_first moves (x ∷ xs) zero pair is next before =
    let same : x ≡ pair = same_Some x pair is in
    cond-true (is_next moves x) (Some x) (find (is_next moves) xs) (ap (is_next moves) same ∙ next) ∙ ap Some same
find_first moves (x ∷ xs) (suc number) pair is next before =
    cond-false (is_next moves x) (Some x) (find (is_next moves) xs) (before 0 x (omega arith) refl) ∙ find_first moves xs number pair is next (λ k other lt there. before (suc k) other (omega arith) there)

pub find_none : (moves : Moves) (pairs : List Pair) → ((k : ℕ) (pair : Pair) → slice_get pairs k ≡ Some pair → is_next moves pair ≡ false) → find (is_next moves) pairs ≡ None
find_none moves [] none = refl
find_none moves (x ∷ xs) none = cond-false (is_next moves x) (Some x) (find (is_next moves) xs) (none 0 x refl) ∙ find_none moves xs (λ k pair there. none (suc k) pair there)

false_or : (b : Bool) → (b ≡ true → ⊥) → b ≡ false
false_or true not_so = absurd (not_so refl)
false_or false not_so = refl

-- the number that is taken is that of the first such pair
first_taken : (pairs : List Pair) (count : ℕ) (top : Reverse ℕ) (moves : List (Option ℤ)) (coming rest : List (Reverse ℕ)) (clock : ℕ) → IsStep pairs count top moves coming rest → (next : IsNext (moves_in moves) pairs top.0 clock)
    → find (is_next (moves_in moves)) pairs ≡ Some next.pair
first_taken pairs count top moves coming rest clock step next =
    find_first (moves_in moves) pairs top.0 next.pair next.there next.next
    (λ k other lt there. false_or (is_next (moves_in moves) other) (λ also. let le : top.0 ≤ k = least top coming step.bound k (step.stand.has k other there also) in omega arith))

with_next_is : (pairs : List Pair) (moves : List (Option ℤ)) (pair : Pair) (clock : ℕ) → clock < length moves → find (is_next (moves_in moves)) pairs ≡ Some pair → unplaced (moves_in moves) pair ≡ clock
    → with_next pairs (moves_in moves) ≡ moves_in (set moves clock (Some (move_in (range_of (moves_in moves) clock pairs))))
with_next_is pairs moves pair clock lt found is =
    ap (λ o. placed_next (moves_in moves) pairs o) found
    ∙ ap (λ c. with_move (moves_in moves) c (move_in (range_of (moves_in moves) c pairs))) is
    ∙ sym (set_is_with moves clock (move_in (range_of (moves_in moves) clock pairs)) lt)

placed_one : (pairs : List Pair) (steps : ℕ) (moves : Moves) → placed pairs (suc steps) moves ≡ placed pairs steps (with_next pairs moves)
unfolding placed
placed_one pairs steps moves = refl

lead_step : (pairs : List Pair) (n : ℕ) (first now : List (Option ℤ)) (clock : ℕ) (by : ℤ) (steps : ℕ) → clock < length now → moves_in now clock ≡ None → length now ≤ steps + placed_count now → placed pairs n (moves_in first) ≡ placed pairs steps (moves_in now)
    → with_next pairs (moves_in now) ≡ moves_in (set now clock (Some by)) → Leads pairs n first (set now clock (Some by))
lead_step pairs n first now clock by zero lt none enough same next =
    absurd (omega (arith, count_set now clock by lt none, count_by-le-length is_some (set now clock (Some by)), length-set now clock (Some by)))
lead_step pairs n first now clock by (suc steps) lt none enough same next = record {
  steps = steps;
  enough = omega (arith, count_set now clock by lt none, length-set now clock (Some by));
  same = same ∙ placed_one pairs steps (moves_in now) ∙ ap (placed pairs steps) next;
}

stays : (pairs : List Pair) (moves : Moves) → find (is_next moves) pairs ≡ None → (steps : ℕ) → placed pairs steps moves ≡ moves
unfolding placed
stays pairs moves none zero = refl
stays pairs moves none (suc steps) = ap (λ o. placed pairs steps (placed_next moves pairs o)) none ∙ stays pairs moves none steps

-- ---- all steps

leads_more : (pairs : List Pair) (count : ℕ) (top : Reverse ℕ) (first moves : List (Option ℤ)) (coming rest : List (Reverse ℕ)) (clock : ℕ) → IsStep pairs count top moves coming rest → IsNext (moves_in moves) pairs top.0 clock → LeadsOn pairs first moves
    → LeadsOn pairs first (set moves clock (Some (move_in (range_of (moves_in moves) clock pairs))))
unfolding LeadsOn
leads_more pairs count top first moves coming rest clock step next leads = λ n enough.
    let facts = unplaced_is (moves_in moves) next.pair next.next in
    let within : clock < count = subst (λ c. c < count) next.clock_is (either_among count next.pair (is_some (moves_in moves next.pair.caller)) (pair_among count pairs top.0 next.pair step.among next.there)) in
    let long : length moves ≡ count = step.stand.long in
    let here : clock < length moves = omega arith in
    let none : moves_in moves clock ≡ None = ap (moves_in moves) (sym next.clock_is) ∙ facts.0 in
    let lead = leads n enough in
    lead_step pairs n first moves clock (move_in (range_of (moves_in moves) clock pairs)) lead.steps here none lead.enough lead.same
    (with_next_is pairs moves next.pair clock here (first_taken pairs count top moves coming rest clock step next) next.clock_is)

-- what is left to do
pub left_of : List Pair → List (Option ℤ) → List (Reverse ℕ) → ℕ
left_of pairs moves coming = (length moves - placed_count moves) * (length pairs + 1) + length coming

fewer : (d p r k n : ℕ) → n ≤ p → k ≡ r + 1 → d * (p + 1) + (r + n) < (d + 1) * (p + 1) + k
fewer d p r k n few is = omega arith

less_by : (a b p r k l n : ℕ) → a ≡ b + 1 → n ≤ p → k ≡ r + 1 → l ≡ r + n → b * (p + 1) + l < a * (p + 1) + k
less_by a b p r k l n a_is few k_is l_is = rw (a_is, l_is) (fewer b p r k n few k_is)

pub record HasStepped (pairs : List Pair) (count : ℕ) (first moves : List (Option ℤ)) (coming : List (Reverse ℕ)) (new_moves : List (Option ℤ)) (new_coming : List (Reverse ℕ)) : Type 0 where
  pub stand : Stand pairs count new_moves new_coming
  pub leads : LeadsOn pairs first new_moves
  pub less : left_of pairs new_moves new_coming < left_of pairs moves coming

less_same : (pairs : List Pair) (moves : List (Option ℤ)) (coming rest : List (Reverse ℕ)) (top : Reverse ℕ) → IsPermutation coming (top ∷ rest) → left_of pairs moves rest < left_of pairs moves coming
unfolding left_of
less_same pairs moves coming rest top moved = let e : suc (length rest) ≡ length coming = length_permutation coming (top ∷ rest) moved in omega arith

less_more : (pairs : List Pair) (moves : List (Option ℤ)) (coming rest new_rest : List (Reverse ℕ)) (top : Reverse ℕ) (clock : ℕ) (by : ℤ) → IsPermutation coming (top ∷ rest) → clock < length moves → moves_in moves clock ≡ None
    → HaveJoined (numbers_of pairs clock) rest new_rest → left_of pairs (set moves clock (Some by)) new_rest < left_of pairs moves coming
unfolding left_of
less_more pairs moves coming rest new_rest top clock by moved lt none joined =
    let e : suc (length rest) ≡ length coming = length_permutation coming (top ∷ rest) moved in
    let more = count_set moves clock by lt none in
    let most = count_by-le-length is_some (set moves clock (Some by)) in
    let long = length-set moves clock (Some by) in
    let count : length new_rest ≡ length rest + length (numbers_of pairs clock) = joined.count in
    let d : length moves - placed_count moves ≡ (length (set moves clock (Some by)) - placed_count (set moves clock (Some by))) + 1 = omega arith in
    less_by (length moves - placed_count moves) (length (set moves clock (Some by)) - placed_count (set moves clock (Some by))) (length pairs) (length rest) (length coming) (length new_rest) (length (numbers_of pairs clock)) d (numbers_few pairs clock) (omega arith) count

by_cases : (pairs : List Pair) (count : ℕ) (top : Reverse ℕ) (first moves : List (Option ℤ)) (coming rest : List (Reverse ℕ)) (new_moves : List (Option ℤ)) (new_rest : List (Reverse ℕ)) (o : Option ℕ) → IsStep pairs count top moves coming rest
    → LeadsOn pairs first moves → next_clock (moves_in moves) pairs top.0 ≡ o → MatchOption o ((new_moves ≡ moves) × (new_rest ≡ rest)) (IsDone pairs moves rest new_moves new_rest) → HasStepped pairs count first moves coming new_moves new_rest
by_cases pairs count top first moves coming rest new_moves new_rest None step leads is done =
    subst (λ those. HasStepped pairs count first moves coming those new_rest) (sym done.0)
    (subst (λ those. HasStepped pairs count first moves coming moves those) (sym done.1)
    (record { stand = stand_same pairs count top moves coming rest step is; leads = leads; less = less_same pairs moves coming rest top step.moved }))
by_cases pairs count top first moves coming rest new_moves new_rest (Some clock) step leads is done =
    let next = next_known (moves_in moves) pairs top.0 clock is in
    let facts = unplaced_is (moves_in moves) next.pair next.next in
    let within : clock < count = subst (λ c. c < count) next.clock_is (either_among count next.pair (is_some (moves_in moves next.pair.caller)) (pair_among count pairs top.0 next.pair step.among next.there)) in
    let long : length moves ≡ count = step.stand.long in
    let here : clock < length moves = omega arith in
    let none : moves_in moves clock ≡ None = ap (moves_in moves) (sym next.clock_is) ∙ facts.0 in
    subst (λ those. HasStepped pairs count first moves coming those new_rest) (sym done.0)
    (record {
      stand = stand_more pairs count top moves coming rest new_rest clock step next done.1;
      leads = leads_more pairs count top first moves coming rest clock step next leads;
      less = less_more pairs moves coming rest new_rest top clock (move_in (range_of (moves_in moves) clock pairs)) step.moved here none done.1;
    })

-- one number is taken, and the clock of its pair placed
pub stepped : (pairs : List Pair) (count : ℕ) (top : Reverse ℕ) (first moves : List (Option ℤ)) (coming rest : List (Reverse ℕ)) (new_moves : List (Option ℤ)) (new_rest : List (Reverse ℕ)) → IsStep pairs count top moves coming rest → LeadsOn pairs first moves
    → HasPlacedBy pairs top.0 moves rest new_moves new_rest → HasStepped pairs count first moves coming new_moves new_rest
stepped pairs count top first moves coming rest new_moves new_rest step leads done = by_cases pairs count top first moves coming rest new_moves new_rest (next_clock (moves_in moves) pairs top.0) step leads refl done

-- where no number is coming, all is done
pub all_done : (pairs : List Pair) (count : ℕ) (first moves : List (Option ℤ)) (coming : List (Reverse ℕ)) → Stand pairs count moves coming → coming ≡ [] → LeadsOn pairs first moves → (n : ℕ) → length first ≤ n + placed_count first → placed pairs n (moves_in first) ≡ moves_in moves
unfolding LeadsOn
all_done pairs count first moves coming stand none leads n enough =
    let lead = leads n enough in
    lead.same ∙ stays pairs (moves_in moves) (find_none (moves_in moves) pairs (λ k pair there. false_or (is_next (moves_in moves) pair) (λ next. false≢true (sym (ap (λ those. has_number those k) none) ∙ stand.has k pair there next)))) lead.steps

-- ---- a pair by its number

pub no_pair : (moves : Moves) (pairs : List Pair) (number : ℕ) → slice_get pairs number ≡ None → next_clock moves pairs number ≡ None
no_pair moves pairs number none = ap (λ o. option_and_then (λ each. cond (is_next moves each) (Some (unplaced moves each)) None) o) none

pub next_at : (moves : Moves) (pairs : List Pair) (number : ℕ) (pair : Pair) (o : Option ℕ) → slice_get pairs number ≡ Some pair → o ≡ cond (is_next moves pair) (Some (unplaced moves pair)) None → next_clock moves pairs number ≡ o
next_at moves pairs number pair o there is = ap (λ p. option_and_then (λ each. cond (is_next moves each) (Some (unplaced moves each)) None) p) there ∙ sym is

pub placed_at : (pairs : List Pair) (number : ℕ) (moves : List (Option ℤ)) (coming : List (Reverse ℕ)) (new_moves : List (Option ℤ)) (new_coming : List (Reverse ℕ)) (o : Option ℕ) → next_clock (moves_in moves) pairs number ≡ o
    → MatchOption o ((new_moves ≡ moves) × (new_coming ≡ coming)) (IsDone pairs moves coming new_moves new_coming) → HasPlacedBy pairs number moves coming new_moves new_coming
placed_at pairs number moves coming new_moves new_coming o is done = subst (λ those. MatchOption those ((new_moves ≡ moves) × (new_coming ≡ coming)) (IsDone pairs moves coming new_moves new_coming)) (sym is) done

pub clock_among : (count : ℕ) (moves : Moves) (pair : Pair) (clock : ℕ) → IsPairAmong count pair → Some clock ≡ cond (is_next moves pair) (Some (unplaced moves pair)) None → clock < count
clock_among count moves pair clock among is =
    let both = cond_some (is_next moves pair) (unplaced moves pair) clock (sym is) in
    subst (λ c. c < count) both.1 (either_among count pair (is_some (moves pair.caller)) among)

pub said_at : (pairs : List Pair) (number : ℕ) (pair : Pair) → All IsSaid pairs → slice_get pairs number ≡ Some pair → IsSaid pair
said_at pairs number pair all is =
    let within : number < length pairs = slice_get_within pairs number pair is in
    subst IsSaid (same_Some (get_or pairs number pair) pair (sym (slice_get-get_or pairs number pair within) ∙ is)) (All-get_or IsSaid pairs number pair within all)

pub next_within : (count : ℕ) (moves : Moves) (pairs : List Pair) (number clock : ℕ) → All (IsPairAmong count) pairs → next_clock moves pairs number ≡ Some clock → clock < count
next_within count moves pairs number clock all is =
    let next = next_known moves pairs number clock is in
    subst (λ c. c < count) next.clock_is (either_among count next.pair (is_some (moves next.pair.caller)) (pair_among count pairs number next.pair all next.there))
