-- Calls that were given up, by what is known of callers.
use Rattle.std.proofs.Common.{◌≡◌, ℕ, suc, zero, ◌+◌, ◌<◌, ◌≤◌, inl, inr, List, [], ◌∷◌, ◌++◌, Bool, true, false, cond, drop, get_or, length, map, replicate, set, take, Option, Some, None, refl, sym, ap, ◌∙◌, arith}
use Rattle.std.specs.Prelude.{◌&&◌, ◌||◌, MatchBool, filter, is_none, nat_eq, not, option_and_then, slice_get, unwrap_or}
use Rattle.std.specs.List.{last_or, list_any, range_with_len, starts_with}
use Rattle.std.specs.Option.{option_eq}
use Rattle.std.specs.Str.Pattern.{FindsText, HasMatch, LacksTextAt}
use Rattle.std.proofs.lemmas.Bool.{and_parts, cases_eq, cases_lt, eq-eqb, eqb-true, false≢true, false_from_ne_true, ne_eqb, or_cases, or_left, or_right}
use Rattle.std.proofs.lemmas.List.{append-nil, get_or-replicate, get_or-set_other, get_or-set_same, length-replicate, length-set, take-append-drop, take_at}
use Rattle.std.proofs.lemmas.List.Elements.{filter-append}
use Rattle.std.proofs.lemmas.List.Folds.{list_any-append}
use Rattle.std.proofs.lemmas.List.FromFn.{fill_by_all, get_or-map-range_with_len, length-map-range_with_len}
use Rattle.std.proofs.lemmas.Option.{slice_get_within, unwrap_or-slice_get}
use Rattle.std.proofs.lemmas.Slice.Eq.{bytes_eq-Decides}
use Rattle.trace_spans.specs.declared.span.Span.{Span}
use Rattle.trace_relations.specs.declared.given_up.Callers.{Callers}
use Rattle.trace_relations.specs.Ancestry.{known, parent_at}
use Rattle.trace_relations.specs.Attempts.{has_failed}
use Rattle.trace_relations.specs.GivenUp.{Called, answers, failed_by_itself, given_up_by, has_end, has_word, if_given_up, is_child, is_failure, is_failure_of, is_last_answer, is_late, is_unnamed, may_answer, places, ran_on, runs_on, sends_none, was_called}
use Rattle.trace_relations.specs.KeptCalled.{AreCallers, HasAllPlaces, answered, failed_for, outlived}
use Rattle.trace_relations.specs.Sets.{set_for}
use Rattle.trace_relations.specs.Waits.{is_named}

-- ---- a word in a name

starts_here : (name word rest : List ℕ) → name ≡ word ++ rest → starts_with nat_eq name word ≡ true
starts_here name word rest is = (bytes_eq-Decides word (take (length word) name)).1 (sym (take_at word rest (length word) refl) ∙ ap (take (length word)) (sym is))

starts_not : (name word : List ℕ) → LacksTextAt word name 0 → starts_with nat_eq name word ≡ false
starts_not name word lacks = false_from_ne_true (starts_with nat_eq name word) (λ starts.
    let front : word ≡ take (length word) name = (bytes_eq-Decides word (take (length word) name)).0 starts in
    lacks (drop (length word) name) (sym (take-append-drop (length word) name) ∙ ap (λ those. those ++ drop (length word) name) (sym front)))

word_there : (name word : List ℕ) (i : ℕ) (rest : List ℕ) → drop i name ≡ word ++ rest → has_word name word ≡ true
word_there [] word i rest is = starts_here [] word rest (sym (drop_none i) ∙ is)
  where
    drop_none : (n : ℕ) → drop {A = ℕ} n [] ≡ []
    drop_none zero = refl
    drop_none (suc n) = refl
word_there (c ∷ name) word zero rest is = or_left (starts_with nat_eq (c ∷ name) word) (has_word name word) (starts_here (c ∷ name) word rest is)
word_there (c ∷ name) word (suc i) rest is = or_right (starts_with nat_eq (c ∷ name) word) (has_word name word) (word_there name word i rest is)

no_word : (name word : List ℕ) → ((i : ℕ) → i ≤ length name → LacksTextAt word name i) → has_word name word ≡ false
no_word [] word lacks = starts_not [] word (lacks 0 (omega arith))
no_word (c ∷ name) word lacks =
    ap (λ b. b || has_word name word) (starts_not (c ∷ name) word (lacks 0 (omega arith))) ∙ no_word name word (λ i le. lacks (suc i) (omega arith))

-- what `contains` answers
pub contains_is : (result : Bool) (name word : List ℕ) → MatchBool result (HasMatch (FindsText word) name) (FindsText word name None) → result ≡ has_word name word
contains_is true name word found = sym (word_there name word found.0 (drop found.1 name) found.2.1.split)
contains_is false name word lacks = sym (no_word name word lacks)

-- ---- what is known of each caller

table_at : {X : Type 0} (f : ℕ → X) (n k : ℕ) (d : X) → k < n → unwrap_or (slice_get (map f (range_with_len 0 n)) k) d ≡ f k
table_at f n k d lt = unwrap_or-slice_get (map f (range_with_len 0 n)) k d ∙ get_or-map-range_with_len f 0 n k k d lt (omega arith)

set_table : {X : Type 0} (f g : ℕ → X) (n who : ℕ) (value : X) → ((k : ℕ) → (k ≡ who → ⊥) → g k ≡ f k) → g who ≡ value → set (map f (range_with_len 0 n)) who value ≡ map g (range_with_len 0 n)
set_table f g n who value others here =
    fill_by_all g (set (map f (range_with_len 0 n)) who value) n value (length-set (map f (range_with_len 0 n)) who value ∙ length-map-range_with_len f 0 n)
    (λ k lt. elim (cases_eq k who) [
      | inl same ↦
          let long = length-map-range_with_len f 0 n in
          let within : who < length (map f (range_with_len 0 n)) = omega arith in
          ap (λ j. get_or (set (map f (range_with_len 0 n)) who value) j value) same ∙ get_or-set_same (map f (range_with_len 0 n)) who value value within ∙ sym here ∙ ap g (sym same)
      | inr apart ↦ get_or-set_other (map f (range_with_len 0 n)) who k value value apart ∙ get_or-map-range_with_len f 0 n k k value lt (omega arith) ∙ sym (others k apart)
    ])

map_alike : {X : Type 0} (f g : ℕ → X) (xs : List ℕ) → ((k : ℕ) → g k ≡ f k) → map f xs ≡ map g xs
map_alike f g [] same = refl
map_alike f g (x ∷ xs) same = ap (λ y. y ∷ map f xs) (sym (same x)) ∙ ap (λ ys. g x ∷ ys) (map_alike f g xs same)

table_for : {X : Type 0} (f g : ℕ → X) (n : ℕ) (who : Option ℕ) (value : X) → ((k : ℕ) → option_eq nat_eq who (Some k) ≡ false → g k ≡ f k) → ((k : ℕ) → option_eq nat_eq who (Some k) ≡ true → g k ≡ value) → set_for (map f (range_with_len 0 n)) who value ≡ map g (range_with_len 0 n)
table_for f g n None value others here = map_alike f g (range_with_len 0 n) (λ k. others k refl)
table_for f g n (Some who) value others here = set_table f g n who value (λ k apart. others k (ne_eqb who k (λ e. apart (sym e)))) (here who (eq-eqb who who refl))

or_none : (b : Bool) → (b || false) ≡ b
or_none true = refl
or_none false = refl

any_more : (p : ℕ → Bool) (order : List ℕ) (place : ℕ) (b : Bool) → p place ≡ b → list_any p (order ++ place ∷ []) ≡ (list_any p order || b)
any_more p order place b is = list_any-append p order (place ∷ []) ∙ ap (λ c. list_any p order || c) (or_none (p place) ∙ is)

any_table : (p : ℕ → ℕ → Bool) (n : ℕ) (order : List ℕ) (place : ℕ) (who : Option ℕ) → ((caller : ℕ) → p caller place ≡ option_eq nat_eq who (Some caller))
    → set_for (map (λ caller. list_any (p caller) order) (range_with_len 0 n)) who true ≡ map (λ caller. list_any (p caller) (order ++ place ∷ [])) (range_with_len 0 n)
any_table p n order place who is =
    table_for (λ caller. list_any (p caller) order) (λ caller. list_any (p caller) (order ++ place ∷ [])) n who true
    (λ k apart. any_more (p k) order place false (is k ∙ apart) ∙ or_none (list_any (p k) order))
    (λ k same. any_more (p k) order place true (is k ∙ same) ∙ or_right (list_any (p k) order) true refl)

last_pushed : (o : Option ℕ) (xs : List ℕ) (x : ℕ) → last_or o (xs ++ x ∷ []) ≡ Some x
last_pushed o [] x = refl
last_pushed o (y ∷ ys) x = last_pushed (Some y) ys x

filter_one : (p : ℕ → Bool) (order : List ℕ) (place : ℕ) (b : Bool) → p place ≡ b → filter p (order ++ place ∷ []) ≡ filter p order ++ cond b (place ∷ []) []
filter_one p order place b is = filter-append p order (place ∷ []) ∙ ap (λ c. filter p order ++ cond c (place ∷ []) []) is

last_table : (p : ℕ → ℕ → Bool) (n : ℕ) (order : List ℕ) (place : ℕ) (who : Option ℕ) → ((caller : ℕ) → p caller place ≡ option_eq nat_eq who (Some caller))
    → set_for (map (λ caller. last_or None (filter (p caller) order)) (range_with_len 0 n)) who (Some place) ≡ map (λ caller. last_or None (filter (p caller) (order ++ place ∷ []))) (range_with_len 0 n)
last_table p n order place who is =
    table_for (λ caller. last_or None (filter (p caller) order)) (λ caller. last_or None (filter (p caller) (order ++ place ∷ []))) n who (Some place)
    (λ k apart. ap (last_or None) (filter_one (p k) order place false (is k ∙ apart) ∙ append-nil (filter (p k) order)))
    (λ k same. ap (last_or None) (filter_one (p k) order place true (is k ∙ same)) ∙ last_pushed None (filter (p k) order) place)

and_turned : (a b : Bool) → (a && b) ≡ (b && a)
and_turned true true = refl
and_turned true false = refl
and_turned false true = refl
and_turned false false = refl

-- whom a call failed
failed_is : (called : Called) (place caller : ℕ) → is_failure_of called caller place ≡ option_eq nat_eq (failed_for called place) (Some caller)
failed_is called place caller = by_failure (is_failure called place)
  where
    by_failure : (b : Bool) → (option_eq nat_eq (parent_at called.waiting place) (Some caller) && b) ≡ option_eq nat_eq (cond b (parent_at called.waiting place) None) (Some caller)
    by_failure true = and_turned (option_eq nat_eq (parent_at called.waiting place) (Some caller)) true
    by_failure false = and_turned (option_eq nat_eq (parent_at called.waiting place) (Some caller)) false

child_and : (o : Option ℕ) (p : ℕ → Bool) (caller : ℕ) → (option_eq nat_eq o (Some caller) && p caller) ≡ option_eq nat_eq (option_and_then (λ who. cond (p who) (Some who) None) o) (Some caller)
child_and None p caller = refl
child_and (Some who) p caller = elim (cases_eq who caller) [
  | inl same ↦ ap (λ b. b && p caller) (eq-eqb who caller same) ∙ ap p (sym same) ∙ own (p who) same
  | inr apart ↦ ap (λ b. b && p caller) (ne_eqb who caller apart) ∙ sym (other (p who) (ne_eqb who caller apart))
]
  where
    own : (b : Bool) → who ≡ caller → b ≡ option_eq nat_eq (cond b (Some who) None) (Some caller)
    own true same = sym (eq-eqb who caller same)
    own false same = refl

    other : (b : Bool) → nat_eq who caller ≡ false → option_eq nat_eq (cond b (Some who) None) (Some caller) ≡ false
    other true apart = apart
    other false apart = refl

-- what one call more tells
pub record AreNoted (called : Called) (place : ℕ) (old new : Callers) : Type 0 where
  pub has_failure : new.has_failure.items ≡ set_for old.has_failure.items (failed_for called place) true
  pub has_run_on : new.has_run_on.items ≡ set_for old.has_run_on.items (outlived called place) true
  pub answer : new.answer.items ≡ set_for old.answer.items (answered called place) (Some place)

pub one_noted : (called : Called) (order : List ℕ) (place : ℕ) (old new : Callers) → AreCallers called order old → AreNoted called place old new → AreCallers called (order ++ place ∷ []) new
one_noted called order place old new are noted = record {
  has_failure = noted.has_failure ∙ ap (λ those. set_for those (failed_for called place) true) are.has_failure ∙ any_table (λ caller. is_failure_of called caller) (length called.spans) order place (failed_for called place) (failed_is called place);
  has_run_on = noted.has_run_on ∙ ap (λ those. set_for those (outlived called place) true) are.has_run_on
      ∙ any_table (λ caller. ran_on called caller) (length called.spans) order place (outlived called place) (λ caller. child_and (parent_at called.parents place) (λ who. runs_on called who place) caller);
  answer = noted.answer ∙ ap (λ those. set_for those (answered called place) (Some place)) are.answer
      ∙ last_table (λ caller. may_answer called caller) (length called.spans) order place (answered called place) (λ caller. child_and (parent_at called.waiting place) (λ who. answers called who place) caller);
}

none_of_all : {X : Type 0} (value : X) (n : ℕ) (f : ℕ → X) → ((k : ℕ) → f k ≡ value) → replicate n value ≡ map f (range_with_len 0 n)
none_of_all value n f is = fill_by_all f (replicate n value) n value (length-replicate n value) (λ k lt. get_or-replicate n k value value lt ∙ sym (is k))

-- of callers nothing is known by no calls
pub none_noted : (called : Called) (callers : Callers) → callers.has_failure.items ≡ replicate (length called.spans) false → callers.has_run_on.items ≡ replicate (length called.spans) false → callers.answer.items ≡ replicate (length called.spans) None → AreCallers called [] callers
none_noted called callers failure run_on answer = record {
  has_failure = failure ∙ none_of_all false (length called.spans) (λ caller. list_any (is_failure_of called caller) []) (λ k. refl);
  has_run_on = run_on ∙ none_of_all false (length called.spans) (λ caller. list_any (ran_on called caller) []) (λ k. refl);
  answer = answer ∙ none_of_all None (length called.spans) (λ caller. last_or None (filter (may_answer called caller) [])) (λ k. refl);
}

-- ---- the order has each call

range_any : (p : ℕ → Bool) (a n x : ℕ) → a ≤ x → x < a + n → p x ≡ true → list_any p (range_with_len a n) ≡ true
range_any p a zero x from until passes = absurd (omega arith)
range_any p a (suc n) x from until passes = elim (cases_eq x a) [
  | inl same ↦ or_left (p a) (list_any p (range_with_len (a + 1) n)) (ap p (sym same) ∙ passes)
  | inr apart ↦ or_right (p a) (list_any p (range_with_len (a + 1) n)) (range_any p (a + 1) n x (above x a from apart) (omega arith) passes)
]
  where
    above : (y b : ℕ) → b ≤ y → (y ≡ b → ⊥) → b + 1 ≤ y
    above y b le ne = elim (cases_lt b y) [ inl lt ↦ omega arith | inr high ↦ absurd (ne (omega arith)) ]

any_among : (p : ℕ → Bool) (x : ℕ) (xs : List ℕ) → list_any (nat_eq x) xs ≡ true → p x ≡ true → list_any p xs ≡ true
any_among p x [] among passes = absurd (false≢true among)
any_among p x (y ∷ ys) among passes = elim (or_cases (nat_eq x y) (list_any (nat_eq x) ys) among) [
  | inl same ↦ or_left (p y) (list_any p ys) (ap p (sym (eqb-true x y same)) ∙ passes)
  | inr rest ↦ or_right (p y) (list_any p ys) (any_among p x ys rest passes)
]

any_of : (p : ℕ → Bool) (xs : List ℕ) → list_any p xs ≡ true → (x : ℕ) × (p x ≡ true) × (list_any (nat_eq x) xs ≡ true)
any_of p [] any = absurd (false≢true any)
any_of p (y ∷ ys) any = elim (or_cases (p y) (list_any p ys) any) [
  | inl here ↦ (y, here, or_left (nat_eq y y) (list_any (nat_eq y) ys) (eq-eqb y y refl))
  | inr later ↦ let rest = any_of p ys later in (rest.0, rest.1, or_right (nat_eq rest.0 y) (list_any (nat_eq rest.0) ys) rest.2)
]

same_truth : (a b : Bool) → (a ≡ true → b ≡ true) → (b ≡ true → a ≡ true) → a ≡ b
same_truth true b to back = sym (to refl)
same_truth false true to back = back refl
same_truth false false to back = refl

range_within : (a n x : ℕ) → list_any (nat_eq x) (range_with_len a n) ≡ true → x < a + n
range_within a zero x any = absurd (false≢true any)
range_within a (suc n) x any = elim (or_cases (nat_eq x a) (list_any (nat_eq x) (range_with_len (a + 1) n)) any) [
  | inl same ↦ let e : x ≡ a = eqb-true x a same in omega arith
  | inr later ↦ omega (arith, range_within (a + 1) n x later)
]

pub all_any : (p : ℕ → Bool) (n : ℕ) (order : List ℕ) → ((place : ℕ) → place < n → list_any (nat_eq place) order ≡ true) → ((place : ℕ) → p place ≡ true → place < n) → list_any p order ≡ list_any p (range_with_len 0 n)
all_any p n order has within =
    same_truth (list_any p order) (list_any p (range_with_len 0 n))
    (λ any. let one = any_of p order any in range_any p 0 n one.0 (omega arith) (omega (arith, within one.0 one.1)) one.1)
    (λ any. let one = any_of p (range_with_len 0 n) any in any_among p one.0 order (has one.0 (omega (arith, range_within 0 n one.0 one.2))) one.1)

some_span : (spans : List Span) (place : ℕ) (o : Option Span) → slice_get spans place ≡ o → has_failed o ≡ true → place < length spans
some_span spans place None is fails = absurd (false≢true fails)
some_span spans place (Some span) is fails = slice_get_within spans place span is

failure_within : (called : Called) (caller place : ℕ) → is_failure_of called caller place ≡ true → place < length called.spans
failure_within called caller place is =
    some_span called.spans place (slice_get called.spans place) refl (and_parts (has_failed (slice_get called.spans place)) (is_none (called.next place)) (and_parts (is_child called.waiting caller place) (is_failure called place) is).1).0

sent_span : (spans : List Span) (place : ℕ) (caller span : Option Span) → slice_get spans place ≡ span → sends_none caller span ≡ true → place < length spans
sent_span spans place None span is sends = absurd (false≢true sends)
sent_span spans place (Some caller) None is sends = absurd (false≢true sends)
sent_span spans place (Some caller) (Some span) is sends = slice_get_within spans place span is

second_of : (a b c : Bool) → (a && (b && c)) ≡ true → b ≡ true
second_of a b c is = (and_parts b c (and_parts a (b && c) is).1).0

run_within : (called : Called) (caller place : ℕ) → ran_on called caller place ≡ true → place < length called.spans
run_within called caller place is =
    sent_span called.spans place (slice_get called.spans caller) (slice_get called.spans place) refl
    (second_of (is_named called.references place) (sends_none (slice_get called.spans caller) (slice_get called.spans place)) _ (and_parts (is_child called.parents caller place) (runs_on called caller place) is).1)

-- what is known of a caller
pub failure_known : (called : Called) (order : List ℕ) (callers : Callers) (caller : ℕ) → HasAllPlaces called order → AreCallers called order callers → caller < length called.spans → unwrap_or (slice_get callers.has_failure.items caller) false ≡ list_any (is_failure_of called caller) (places called)
failure_known called order callers caller has are lt =
    ap (λ those. unwrap_or (slice_get those caller) false) are.has_failure ∙ table_at (λ who. list_any (is_failure_of called who) order) (length called.spans) caller false lt
    ∙ all_any (is_failure_of called caller) (length called.spans) order has (failure_within called caller)

pub run_on_known : (called : Called) (order : List ℕ) (callers : Callers) (caller : ℕ) → HasAllPlaces called order → AreCallers called order callers → caller < length called.spans → unwrap_or (slice_get callers.has_run_on.items caller) false ≡ list_any (ran_on called caller) (places called)
run_on_known called order callers caller has are lt =
    ap (λ those. unwrap_or (slice_get those caller) false) are.has_run_on ∙ table_at (λ who. list_any (ran_on called who) order) (length called.spans) caller false lt
    ∙ all_any (ran_on called caller) (length called.spans) order has (run_within called caller)

known_or : (o : Option (Option ℕ)) → known o ≡ unwrap_or o None
known_or None = refl
known_or (Some place) = refl

pub answer_known : (called : Called) (order : List ℕ) (callers : Callers) (caller : ℕ) → AreCallers called order callers → caller < length called.spans → parent_at callers.answer.items caller ≡ last_or None (filter (may_answer called caller) order)
answer_known called order callers caller are lt =
    known_or (slice_get callers.answer.items caller) ∙ ap (λ those. unwrap_or (slice_get those caller) None) are.answer ∙ table_at (λ who. last_or None (filter (may_answer called who) order)) (length called.spans) caller None lt

-- ---- what is told of a caller and its calls

pub itself_is : (called : Called) (order : List ℕ) (callers : Callers) (place : ℕ) (failed ended has : Bool) → HasAllPlaces called order → AreCallers called order callers → place < length called.spans → failed ≡ has_failed (slice_get called.spans place) → ended ≡ has_end called.intervals place
    → has ≡ unwrap_or (slice_get callers.has_failure.items place) false → ((failed && ended) && not has) ≡ failed_by_itself called place
itself_is called order callers place failed ended has all are lt failed_is ended_is has_is =
    and_turn failed ended (not has) ∙ ap (λ b. b && (ended && not has)) failed_is ∙ ap (λ b. has_failed (slice_get called.spans place) && (b && not has)) ended_is
    ∙ ap (λ b. has_failed (slice_get called.spans place) && (has_end called.intervals place && not b)) (has_is ∙ failure_known called order callers place all are lt)
  where
    and_turn : (a b c : Bool) → ((a && b) && c) ≡ (a && (b && c))
    and_turn true b c = refl
    and_turn false b c = refl

pub ran_is : (called : Called) (order : List ℕ) (callers : Callers) (caller place : ℕ) (ran late unnamed : Bool) → HasAllPlaces called order → AreCallers called order callers → is_child called.parents caller place ≡ true → caller < length called.spans
    → unwrap_or (slice_get callers.has_run_on.items caller) false ≡ true → ran ≡ runs_on called caller place → late ≡ is_late (slice_get called.spans caller) → unnamed ≡ is_unnamed (slice_get called.spans caller) → (ran && (late || unnamed)) ≡ was_called called order caller place
ran_is called order callers caller place ran late unnamed all are child lt told own_is late_is unnamed_is =
    let any : list_any (ran_on called caller) (places called) ≡ true = sym (run_on_known called order callers caller all are lt) ∙ told in
    let own : ran ≡ ran_on called caller place = own_is ∙ ap (λ b. b && runs_on called caller place) (sym child) in
    ap (λ b. b && (late || unnamed)) own ∙ ap (λ b. ran_on called caller place && (b || unnamed)) late_is ∙ ap (λ b. ran_on called caller place && (is_late (slice_get called.spans caller) || b)) unnamed_is
    ∙ sym (ap (λ b. cond b (ran_on called caller place && (is_late (slice_get called.spans caller) || is_unnamed (slice_get called.spans caller))) (is_late (slice_get called.spans caller) && is_last_answer called order caller place)) any)

pub answer_is : (called : Called) (order : List ℕ) (callers : Callers) (caller place : ℕ) (late same : Bool) → HasAllPlaces called order → AreCallers called order callers → caller < length called.spans
    → unwrap_or (slice_get callers.has_run_on.items caller) false ≡ false → late ≡ is_late (slice_get called.spans caller) → same ≡ option_eq nat_eq (parent_at callers.answer.items caller) (Some place) → (late && same) ≡ was_called called order caller place
answer_is called order callers caller place late same all are lt told late_is same_is =
    let none : list_any (ran_on called caller) (places called) ≡ false = sym (run_on_known called order callers caller all are lt) ∙ told in
    ap (λ b. b && same) late_is ∙ ap (λ b. is_late (slice_get called.spans caller) && b) (same_is ∙ ap (λ o. option_eq nat_eq o (Some place)) (answer_known called order callers caller are lt))
    ∙ sym (ap (λ b. cond b (ran_on called caller place && (is_late (slice_get called.spans caller) || is_unnamed (slice_get called.spans caller))) (is_late (slice_get called.spans caller) && is_last_answer called order caller place)) none)

-- a span that its caller gave up, or did not
pub own_child : (parents : List (Option ℕ)) (caller place : ℕ) → parent_at parents place ≡ Some caller → is_child parents caller place ≡ true
own_child parents caller place is = ap (λ o. option_eq nat_eq o (Some caller)) is ∙ eq-eqb caller caller refl

given_with : (called : Called) (order : List ℕ) (place caller : ℕ) → parent_at called.parents place ≡ Some caller → given_up_by called order place ≡ cond (failed_by_itself called caller && was_called called order caller place) (Some caller) None
given_with called order place caller is = ap (option_and_then (if_given_up called order place)) is

pub none_given : (called : Called) (order : List ℕ) (place caller : ℕ) → parent_at called.parents place ≡ Some caller → failed_by_itself called caller ≡ false → None ≡ given_up_by called order place
none_given called order place caller is itself = sym (given_with called order place caller is ∙ ap (λ b. cond (b && was_called called order caller place) (Some caller) None) itself)

pub one_given : (called : Called) (order : List ℕ) (place caller : ℕ) → parent_at called.parents place ≡ Some caller → failed_by_itself called caller ≡ true → was_called called order caller place ≡ true → Some caller ≡ given_up_by called order place
one_given called order place caller is itself was =
    sym (given_with called order place caller is ∙ ap (λ b. cond (b && was_called called order caller place) (Some caller) None) itself ∙ ap (λ b. cond b (Some caller) None) was)

pub not_given : (called : Called) (order : List ℕ) (place caller : ℕ) → parent_at called.parents place ≡ Some caller → failed_by_itself called caller ≡ true → was_called called order caller place ≡ false → None ≡ given_up_by called order place
not_given called order place caller is itself was =
    sym (given_with called order place caller is ∙ ap (λ b. cond (b && was_called called order caller place) (Some caller) None) itself ∙ ap (λ b. cond b (Some caller) None) was)
