-- A call is taken from its group: the first that can try another again.
use Rattle.std.proofs.Common.{◌≡◌, ℕ, suc, zero, ◌<◌, ◌≤◌, inl, inr, List, [], ◌∷◌, Bool, true, false, cond, get_or, length, set, Option, Some, None, refl, sym, ap, ◌∙◌, subst, arith}
use Rattle.std.specs.Prelude.{◌&&◌, ◌||◌, ◌==◌, bytes_eq, filter, find, is_some, nat_eq, nat_lt, not, slice_get, unwrap_or}
use Rattle.std.specs.Cmp.Lexicographic.{pointwise}
use Rattle.std.specs.List.Sorted.{IsNonDecreasingBy, IsPartitionedBy}
use Rattle.std.proofs.lemmas.Bool.{and_from, and_left, and_parts, cases_eq, cases_lt, cond-false, cond-true, eq-eqb, eqb-true, false≢true, ne_eqb}
use Rattle.std.proofs.lemmas.Bool.Decides.{nat_tests}
use Rattle.std.proofs.lemmas.List.Elements.{filter_passes}
use Rattle.std.proofs.lemmas.List.Kept.{AllPairs-filter, IsNonDecreasingBy-filter}
use Rattle.std.proofs.lemmas.Option.{none-some, same_Some, slice_get-get_or, slice_get_within, unwrap_or-slice_get}
use Rattle.trace_spans.specs.declared.span.Span.{Span}
use Rattle.trace_relations.specs.declared.call_groups.Group.{Group}
use Rattle.trace_relations.specs.declared.call_groups.Groups.{Groups}
use Rattle.trace_relations.specs.declared.free_places.FreePlaces.{FreePlaces}
use Rattle.trace_relations.specs.declared.moment.Interval.{Interval}
use Rattle.trace_relations.specs.declared.moment.Moment.{Moment}
use Rattle.trace_relations.specs.Ancestry.{start_at}
use Rattle.trace_relations.specs.Attempts.{Attempts, CallsOf, can_try, first_try, is_same_call, same_caller, with_try}
use Rattle.trace_relations.specs.ByStart.{AreInTurn}
use Rattle.trace_relations.specs.Calls.{call_texts}
use Rattle.trace_relations.specs.FreePlaces.{AreFree, IsFirstFree, NoneIsFree, with_free}
use Rattle.trace_relations.specs.GroupTakes.{HasTaken, IsFirstAfter, IsTaken, NoneIsTaken, may_be_taken, starts_after}
use Rattle.trace_relations.specs.Groupings.{number_in}
use Rattle.trace_relations.specs.Groups.{AreGroups, HasGroup, IsFailed, group_of, is_free, is_of_group}
use Rattle.trace_relations.specs.Moments.{end_moment, ended_before, interval_at, is_past, start_moment, turn_number}
use Rattle.trace_relations.proofs.FreeRows.{with_free_here, with_free_there}
use Rattle.trace_relations.proofs.Gets.{slice_get-set_here, slice_get-set_there}
use Rattle.trace_relations.proofs.Keying.{texts-Decides}

-- ---- which calls of a group start after a moment

later_stays : (e n s t : ℕ) → s ≤ t → not (nat_lt e t || (e == t && nat_lt n 1)) ≡ true → not (nat_lt e s || (e == s && nat_lt n 1)) ≡ true
later_stays e n s t le h = grind (arith, nat_tests)

-- calls that start after a moment come after those that do not
pub starts_partitioned : (intervals : List Interval) (end : Moment) (calls : List ℕ) → IsNonDecreasingBy (start_at intervals) calls → IsPartitionedBy (λ call. not (starts_after intervals end call)) calls
starts_partitioned intervals end calls rise = λ i j d le within passes.
    later_stays end.tick (turn_number end.turn) (start_at intervals (get_or calls i d)) (start_at intervals (get_or calls j d)) (rise i j d le within) passes

no_and : (b c : Bool) → c ≡ false → (b && c) ≡ false
no_and true c e = e
no_and false c e = refl

taken_there : (intervals : List Interval) (end : Moment) (free : ℕ → Bool) (calls : List ℕ) (number : ℕ) → may_be_taken intervals end free calls number ≡ (starts_after intervals end (get_or calls number 0) && free number)
taken_there intervals end free calls number = ap (λ call. starts_after intervals end call && free number) (unwrap_or-slice_get calls number 0)

not_taken : (intervals : List Interval) (end : Moment) (free : ℕ → Bool) (calls : List ℕ) (from number : ℕ) → IsFirstAfter intervals end calls from → (from ≤ number → free number ≡ false) → may_be_taken intervals end free calls number ≡ false
not_taken intervals end free calls from number first taken = taken_there intervals end free calls number ∙ elim (cases_lt number from) [
  | inl before ↦ and_left (starts_after intervals end (get_or calls number 0)) (free number) (first.0 number 0 (omega arith) before)
  | inr after ↦ no_and (starts_after intervals end (get_or calls number 0)) (free number) (taken after)
]

pub take_none : (intervals : List Interval) (end : Moment) (free : ℕ → Bool) (calls : List ℕ) (from : ℕ) (places : FreePlaces) → IsFirstAfter intervals end calls from → NoneIsFree (length calls) free from → AreFree places (length calls) free → NoneIsTaken intervals end free calls places
take_none intervals end free calls from places first none are = record {
  none = λ number lt. not_taken intervals end free calls from number first (λ after. none number after lt);
  places_are = are;
}

pub take_one : (intervals : List Interval) (end : Moment) (free : ℕ → Bool) (calls : List ℕ) (from number call : ℕ) (places : FreePlaces) → IsFirstAfter intervals end calls from → IsFirstFree (length calls) free from number → slice_get calls number ≡ Some call → AreFree places (length calls) (with_free free number false)
    → IsTaken intervals end free calls call places
take_one intervals end free calls from number call places first one there are = record {
  number = number;
  there = there;
  may_be = taken_there intervals end free calls number ∙ and_from (starts_after intervals end (get_or calls number 0)) (free number) (first.1 number 0 one.0 one.1) one.2;
  before = λ other lt. not_taken intervals end free calls from other first (λ after. one.3 other after lt);
  places_are = are;
}

-- ---- the first that can try a call again

find_filtered : (g q p : ℕ → Bool) → ((x : ℕ) → p x ≡ (g x && q x)) → (xs : List ℕ) → find p xs ≡ find q (filter g xs)
find_filtered g q p same [] = refl
find_filtered g q p same (x ∷ xs) = ap (λ b. cond b (Some x) (find p xs)) (same x) ∙ by_test (g x) (find_filtered g q p same xs)
  where
    by_test : (b : Bool) → find p xs ≡ find q (filter g xs) → cond (b && q x) (Some x) (find p xs) ≡ find q (cond b (x ∷ filter g xs) (filter g xs))
    by_test true rest = ap (λ o. cond (q x) (Some x) o) rest
    by_test false rest = rest

find_number : (q : ℕ → Bool) (xs : List ℕ) (number x : ℕ) → slice_get xs number ≡ Some x → q (unwrap_or (slice_get xs number) 0) ≡ true → ((k : ℕ) → k < number → q (unwrap_or (slice_get xs k) 0) ≡ false) → find q xs ≡ Some x
find_number q [] number x is passes before = absurd (none-some x is)
find_number q (y ∷ ys) zero x is passes before = cond-true (q y) (Some y) (find q ys) passes ∙ is
find_number q (y ∷ ys) (suc number) x is passes before = cond-false (q y) (Some y) (find q ys) (before 0 (omega arith)) ∙ find_number q ys number x is passes (λ k lt. before (suc k) (omega arith))

find_nowhere : (q : ℕ → Bool) (xs : List ℕ) → ((k : ℕ) → k < length xs → q (unwrap_or (slice_get xs k) 0) ≡ false) → find q xs ≡ None
find_nowhere q [] none = refl
find_nowhere q (y ∷ ys) none = cond-false (q y) (Some y) (find q ys) (none 0 (omega arith)) ∙ find_nowhere q ys (λ k lt. none (suc k) (omega arith))

regrouped : (a b c d : Bool) → ((a && (b && c)) && d) ≡ ((a && b) && (c && d))
regrouped true true c d = refl
regrouped true false c d = refl
regrouped false b c d = refl

-- a call of the group that starts when the other has ended, and tries no other
abbrev tries : CallsOf → Attempts → ℕ → ℕ → Bool
tries calls attempts call other = ended_before (interval_at calls.intervals call) (start_moment (interval_at calls.intervals other)) && not (is_some (attempts.previous other))

first_in_group : (calls : CallsOf) (order : List ℕ) (attempts : Attempts) (call : ℕ) → first_try calls order attempts call ≡ find (tries calls attempts call) (group_of calls order call)
first_in_group calls order attempts call =
    find_filtered (is_of_group calls call) (tries calls attempts call) (λ other. can_try calls call other && not (is_some (attempts.previous other)))
    (λ other. regrouped (same_caller (calls.callers call) (calls.callers other)) (is_same_call (slice_get calls.spans call) (slice_get calls.spans other)) (ended_before (interval_at calls.intervals call) (start_moment (interval_at calls.intervals other))) (not (is_some (attempts.previous other)))) order

tries_at : (calls : CallsOf) (attempts : Attempts) (intervals : List Interval) (end : Moment) (call : ℕ) (group : List ℕ) (number : ℕ) → calls.intervals ≡ intervals → end_moment (interval_at intervals call) ≡ Some end
    → tries calls attempts call (unwrap_or (slice_get group number) 0) ≡ may_be_taken intervals end (is_free attempts group) group number
tries_at calls attempts intervals end call group number same ends =
    ap (λ those. ended_before (interval_at those call) (start_moment (interval_at those (unwrap_or (slice_get group number) 0))) && is_free attempts group number) same
    ∙ ap (λ o. is_past o (start_moment (interval_at intervals (unwrap_or (slice_get group number) 0))) && is_free attempts group number) ends

pub first_taken : (calls : CallsOf) (order : List ℕ) (attempts : Attempts) (intervals : List Interval) (end : Moment) (call : ℕ) (groups : Groups) (taken : Option ℕ) (places : FreePlaces) → calls.intervals ≡ intervals → end_moment (interval_at intervals call) ≡ Some end
    → (has : HasGroup calls order attempts call groups) → HasTaken intervals end (is_free attempts has.group.calls.items) has.group.calls.items taken places → taken ≡ first_try calls order attempts call
first_taken calls order attempts intervals end call groups None places same ends has none =
    sym (first_in_group calls order attempts call ∙ ap (find (tries calls attempts call)) (sym has.calls_are)
    ∙ find_nowhere (tries calls attempts call) has.group.calls.items (λ k lt. tries_at calls attempts intervals end call has.group.calls.items k same ends ∙ none.none k lt))
first_taken calls order attempts intervals end call groups (Some again) places same ends has one =
    sym (first_in_group calls order attempts call ∙ ap (find (tries calls attempts call)) (sym has.calls_are)
    ∙ find_number (tries calls attempts call) has.group.calls.items one.number again one.there (tries_at calls attempts intervals end call has.group.calls.items one.number same ends ∙ one.may_be)
    (λ k lt. tries_at calls attempts intervals end call has.group.calls.items k same ends ∙ one.before k lt))

-- nothing starts after a call that has not ended
pub none_tries : (calls : CallsOf) (order : List ℕ) (attempts : Attempts) (intervals : List Interval) (call : ℕ) → calls.intervals ≡ intervals → end_moment (interval_at intervals call) ≡ None → None ≡ first_try calls order attempts call
none_tries calls order attempts intervals call same ends =
    sym (first_in_group calls order attempts call
    ∙ find_nowhere (tries calls attempts call) (group_of calls order call)
    (λ k lt.
    ap (λ those. ended_before (interval_at those call) (start_moment (interval_at those (unwrap_or (slice_get (group_of calls order call) k) 0))) && not (is_some (attempts.previous (unwrap_or (slice_get (group_of calls order call) k) 0)))) same
    ∙ ap (λ o. is_past o (start_moment (interval_at intervals (unwrap_or (slice_get (group_of calls order call) k) 0))) && not (is_some (attempts.previous (unwrap_or (slice_get (group_of calls order call) k) 0)))) ends))

-- ---- what is free then

free_alike : (places : FreePlaces) (count : ℕ) (free others : ℕ → Bool) → ((k : ℕ) → k < count → others k ≡ free k) → AreFree places count free → AreFree places count others
free_alike places count free others same are = record {
  count_is = are.count_is;
  not_before = are.not_before;
  free_here = λ place is.
      let within : place < length places.next.items = slice_get_within places.next.items place place is in
      same place (omega (arith, are.count_is)) ∙ are.free_here place is;
  taken_until = λ place next other is after before. same other (omega (arith, are.not_before place next is)) ∙ are.taken_until place next other is after before;
}

get_at : (xs : List ℕ) (k x : ℕ) → slice_get xs k ≡ Some x → get_or xs k 0 ≡ x
get_at xs k x is = let within : k < length xs = slice_get_within xs k x is in same_Some (get_or xs k 0) x (sym (slice_get-get_or xs k 0 within) ∙ is)

read_at : (xs : List ℕ) (k x : ℕ) → slice_get xs k ≡ Some x → unwrap_or (slice_get xs k) 0 ≡ x
read_at xs k x is = ap (λ o. unwrap_or o 0) is

-- no call stands in a group twice
group_apart : (calls : CallsOf) (order : List ℕ) (intervals : List Interval) (call : ℕ) (group : List ℕ) → AreInTurn intervals order → group ≡ group_of calls order call → (i j : ℕ) → i < j → j < length group → get_or group i 0 ≡ get_or group j 0 → ⊥
group_apart calls order intervals call group turn are i j lt within same =
    AllPairs-filter (λ place other. place ≡ other → ⊥) (is_of_group calls call) order turn.once i j 0 lt (subst (λ those. j < length those) are within) (subst (λ those. get_or those i 0 ≡ get_or those j 0) are same)

apart_at : (calls : CallsOf) (order : List ℕ) (intervals : List Interval) (call : ℕ) (group : List ℕ) → AreInTurn intervals order → group ≡ group_of calls order call → (i j : ℕ) → i < length group → j < length group → (i ≡ j → ⊥) → get_or group i 0 ≡ get_or group j 0 → ⊥
apart_at calls order intervals call group turn are i j lt_i lt_j ne same = elim (cases_lt i j) [
  | inl lt ↦ group_apart calls order intervals call group turn are i j lt lt_j same
  | inr le ↦ group_apart calls order intervals call group turn are j i (not_same i j ne le) lt_i (sym same)
]
  where
    not_same : (a b : ℕ) → (a ≡ b → ⊥) → b ≤ a → b < a
    not_same a b differ low = elim (cases_lt b a) [ inl lt ↦ lt | inr high ↦ absurd (differ (omega arith)) ]

free_with : (attempts : Attempts) (call again other : ℕ) (group : List ℕ) (k : ℕ) → unwrap_or (slice_get group k) 0 ≡ other → nat_eq other again ≡ false → is_free (with_try attempts call (Some again)) group k ≡ is_free attempts group k
free_with attempts call again other group k is apart =
    ap (λ o. not (is_some o)) (ap (λ x. cond (nat_eq x again) (Some call) (attempts.previous x)) is ∙ cond-false (nat_eq other again) (Some call) (attempts.previous other) apart ∙ ap attempts.previous (sym is))

-- of the group that a call is taken from
own_free : (calls : CallsOf) (order : List ℕ) (attempts : Attempts) (intervals : List Interval) (end : Moment) (call again : ℕ) (group : List ℕ) (places : FreePlaces) → AreInTurn intervals order → group ≡ group_of calls order call → IsTaken intervals end (is_free attempts group) group again places
    → AreFree places (length group) (is_free (with_try attempts call (Some again)) group)
own_free calls order attempts intervals end call again group places turn are one =
    let at : get_or group one.number 0 ≡ again = get_at group one.number again one.there in
    let in_group : one.number < length group = slice_get_within group one.number again one.there in
    free_alike places (length group) (with_free (is_free attempts group) one.number false) (is_free (with_try attempts call (Some again)) group)
    (λ k lt. elim (cases_eq k one.number) [
      | inl same ↦
          let there : unwrap_or (slice_get group k) 0 ≡ again = ap (λ n. unwrap_or (slice_get group n) 0) same ∙ read_at group one.number again one.there in
          ap (λ o. not (is_some o)) (cond-true (nat_eq (unwrap_or (slice_get group k) 0) again) (Some call) (attempts.previous (unwrap_or (slice_get group k) 0)) (eq-eqb (unwrap_or (slice_get group k) 0) again there))
          ∙ sym (with_free_here (is_free attempts group) one.number false k same)
      | inr other ↦
          let apart : nat_eq (get_or group k 0) again ≡ false = ne_eqb (get_or group k 0) again (λ e. apart_at calls order intervals call group turn are k one.number lt in_group other (e ∙ sym at)) in
          free_with attempts call again (get_or group k 0) group k (unwrap_or-slice_get group k 0) apart ∙ sym (with_free_there (is_free attempts group) one.number false k other)
    ]) one.places_are

-- ---- groups afterwards

-- the call at a number of a group is of it
in_group : (calls : CallsOf) (order : List ℕ) (call : ℕ) (group : List ℕ) (k : ℕ) → group ≡ group_of calls order call → k < length group → is_of_group calls call (get_or group k 0) ≡ true
in_group calls order call group k are lt =
    ap (λ those. is_of_group calls call (get_or those k 0)) are ∙ filter_passes (is_of_group calls call) order k 0 (subst (λ those. k < length those) are lt)

-- two calls to whose groups one belongs are of one group
group_meets : (calls : CallsOf) (call other third : ℕ) → is_of_group calls call third ≡ true → is_of_group calls other third ≡ true → is_of_group calls call other ≡ true
group_meets calls call other third is also =
    meet (calls.callers call) (calls.callers other) (calls.callers third) (slice_get calls.spans call) (slice_get calls.spans other) (slice_get calls.spans third) is also
  where
    meet : (a b c : Option ℕ) (x y z : Option Span) → (same_caller a c && is_same_call x z) ≡ true → (same_caller b c && is_same_call y z) ≡ true → (same_caller a b && is_same_call x y) ≡ true
    meet None b c x y z p q = absurd (false≢true p)
    meet (Some a) None c x y z p q = absurd (false≢true q)
    meet (Some a) (Some b) None x y z p q = absurd (false≢true p)
    meet (Some a) (Some b) (Some c) None y z p q = absurd (false≢true (sym (no_and (nat_eq a c) false refl) ∙ p))
    meet (Some a) (Some b) (Some c) (Some x) None z p q = absurd (false≢true (sym (no_and (nat_eq b c) false refl) ∙ q))
    meet (Some a) (Some b) (Some c) (Some x) (Some y) None p q = absurd (false≢true (sym (no_and (nat_eq a c) false refl) ∙ p))
    meet (Some a) (Some b) (Some c) (Some x) (Some y) (Some z) p q =
        let first = and_parts (nat_eq a c) (pointwise bytes_eq (call_texts x) (call_texts z)) p in
        let second = and_parts (nat_eq b c) (pointwise bytes_eq (call_texts y) (call_texts z)) q in
        let texts : call_texts x ≡ call_texts y = (texts-Decides (call_texts x) (call_texts z)).0 first.1 ∙ sym ((texts-Decides (call_texts y) (call_texts z)).0 second.1) in
        and_from (nat_eq a b) (pointwise bytes_eq (call_texts x) (call_texts y)) (eq-eqb a b (eqb-true a c first.0 ∙ sym (eqb-true b c second.0))) ((texts-Decides (call_texts x) (call_texts y)).1 texts)

-- the groups once a call was taken from that of another
pub record AreTaken (calls : CallsOf) (order : List ℕ) (attempts after : Attempts) (call : ℕ) (groups new : Groups) (has : HasGroup calls order attempts call groups) : Type 0 where
  pub group : Group
  pub of_spans : new.of_spans.items ≡ groups.of_spans.items
  pub groups_are : new.groups.items ≡ set groups.groups.items has.number group
  pub calls_are : group.calls.items ≡ has.group.calls.items
  pub own : AreFree group.free (length has.group.calls.items) (is_free after has.group.calls.items)
  pub others : (other : ℕ) (too : HasGroup calls order attempts other groups) → IsFailed calls order other → (too.number ≡ has.number → ⊥) → (k : ℕ) → k < length too.group.calls.items → is_free after too.group.calls.items k ≡ is_free attempts too.group.calls.items k

group_after : (calls : CallsOf) (order : List ℕ) (attempts after : Attempts) (call other : ℕ) (groups new : Groups) (has : HasGroup calls order attempts call groups) → AreTaken calls order attempts after call groups new has → IsFailed calls order other
    → HasGroup calls order attempts other groups → HasGroup calls order after other new
group_after calls order attempts after call other groups new has taken fails too = elim (cases_eq too.number has.number) [
  | inl same ↦
      let within : has.number < length groups.groups.items = slice_get_within groups.groups.items has.number has.group has.there in
      let groups_same : has.group ≡ too.group = same_Some has.group too.group (sym has.there ∙ ap (slice_get groups.groups.items) (sym same) ∙ too.there) in
      record {
        number = too.number;
        group = taken.group;
        number_is = ap (λ those. number_in those other) taken.of_spans ∙ too.number_is;
        there = ap (λ those. slice_get those too.number) taken.groups_are ∙ ap (slice_get (set groups.groups.items has.number taken.group)) same ∙ slice_get-set_here groups.groups.items has.number taken.group within;
        calls_are = taken.calls_are ∙ ap (λ (group : Group). group.calls.items) groups_same ∙ too.calls_are;
        free_are = subst (λ those. AreFree taken.group.free (length those) (is_free after those)) (sym taken.calls_are) taken.own;
      }
  | inr apart ↦ record {
    number = too.number;
    group = too.group;
    number_is = ap (λ those. number_in those other) taken.of_spans ∙ too.number_is;
    there = ap (λ those. slice_get those too.number) taken.groups_are ∙ slice_get-set_there groups.groups.items has.number too.number taken.group apart ∙ too.there;
    calls_are = too.calls_are;
    free_are = free_alike too.group.free (length too.group.calls.items) (is_free attempts too.group.calls.items) (is_free after too.group.calls.items) (taken.others other too fails apart) too.free_are;
  }
]

pub groups_after : (calls : CallsOf) (order : List ℕ) (attempts after : Attempts) (call : ℕ) (groups new : Groups) (has : HasGroup calls order attempts call groups) → AreGroups calls order attempts groups → AreTaken calls order attempts after call groups new has → AreGroups calls order after new
groups_after calls order attempts after call groups new has are taken = record {
  each = λ other fails. group_after calls order attempts after call other groups new has taken fails (are.each other fails);
  alike = λ one other number fails also is number_is.
      ap (λ those. number_in those other) taken.of_spans ∙ are.alike one other number fails also is (sym (ap (λ those. number_in those one) taken.of_spans) ∙ number_is);
}

-- the groups are as they were, but for one
pub record AreSet (groups new : Groups) (number : ℕ) (old group : Group) : Type 0 where
  pub of_spans : new.of_spans.items ≡ groups.of_spans.items
  pub groups_are : new.groups.items ≡ set groups.groups.items number group
  pub calls_are : group.calls.items ≡ old.calls.items

pub taken_by : (calls : CallsOf) (order : List ℕ) (attempts : Attempts) (intervals : List Interval) (end : Moment) (call : ℕ) (groups new : Groups) (group : Group) (taken : Option ℕ) → AreInTurn intervals order → AreGroups calls order attempts groups → IsFailed calls order call
    → (has : HasGroup calls order attempts call groups) → AreSet groups new has.number has.group group → HasTaken intervals end (is_free attempts has.group.calls.items) has.group.calls.items taken group.free → AreGroups calls order (with_try attempts call taken) new
taken_by calls order attempts intervals end call groups new group None turn are fails has is none =
    groups_after calls order attempts attempts call groups new has are
    (record { group = group; of_spans = is.of_spans; groups_are = is.groups_are; calls_are = is.calls_are; own = none.places_are; others = λ other too fails_too apart k lt. refl })
taken_by calls order attempts intervals end call groups new group (Some again) turn are fails has is one =
    let in_own : is_of_group calls call again ≡ true =
    ap (is_of_group calls call) (sym (get_at has.group.calls.items one.number again one.there)) ∙ in_group calls order call has.group.calls.items one.number has.calls_are (slice_get_within has.group.calls.items one.number again one.there) in
    groups_after calls order attempts (with_try attempts call (Some again)) call groups new has are
    (record {
      group = group;
      of_spans = is.of_spans;
      groups_are = is.groups_are;
      calls_are = is.calls_are;
      own = own_free calls order attempts intervals end call again has.group.calls.items group.free turn has.calls_are one;
      others = λ other too fails_too apart k lt.
          free_with attempts call again (get_or too.group.calls.items k 0) too.group.calls.items k (unwrap_or-slice_get too.group.calls.items k 0)
          (ne_eqb (get_or too.group.calls.items k 0) again (λ same.
          let also : is_of_group calls other again ≡ true = ap (is_of_group calls other) (sym same) ∙ in_group calls order other too.group.calls.items k too.calls_are lt in
          let number : number_in groups.of_spans.items other ≡ Some has.number = are.alike call other has.number fails fails_too (group_meets calls call other again in_own also) has.number_is in
          apart (same_Some too.number has.number (sym too.number_is ∙ number))));
    })

-- nothing was taken
pub none_taken : (calls : CallsOf) (order : List ℕ) (attempts : Attempts) (groups new : Groups) → new.of_spans.items ≡ groups.of_spans.items → new.groups.items ≡ groups.groups.items → AreGroups calls order attempts groups → AreGroups calls order attempts new
none_taken calls order attempts groups new of_spans groups_are are = record {
  each = λ call fails. let has = are.each call fails in record {
    number = has.number;
    group = has.group;
    number_is = ap (λ those. number_in those call) of_spans ∙ has.number_is;
    there = ap (λ those. slice_get those has.number) groups_are ∙ has.there;
    calls_are = has.calls_are;
    free_are = has.free_are;
  };
  alike = λ call other number fails also is number_is. ap (λ those. number_in those other) of_spans ∙ are.alike call other number fails also is (sym (ap (λ those. number_in those call) of_spans) ∙ number_is);
}

-- the calls of a group are in turn
pub group_rises : (calls : CallsOf) (order : List ℕ) (intervals : List Interval) (call : ℕ) (group : List ℕ) → AreInTurn intervals order → group ≡ group_of calls order call → IsNonDecreasingBy (start_at intervals) group
group_rises calls order intervals call group turn are = subst (IsNonDecreasingBy (start_at intervals)) (sym are) (IsNonDecreasingBy-filter (start_at intervals) (is_of_group calls call) order turn.rise)

-- ---- a call is taken from the group that it has

group_is : (calls : CallsOf) (order : List ℕ) (attempts : Attempts) (call number : ℕ) (groups : Groups) (group : Group) → HasGroup calls order attempts call groups → number_in groups.of_spans.items call ≡ Some number → slice_get groups.groups.items number ≡ Some group → HasGroup calls order attempts call groups
group_is calls order attempts call number groups group has number_is there =
    let numbers : has.number ≡ number = same_Some has.number number (sym has.number_is ∙ number_is) in
    let same : has.group ≡ group = same_Some has.group group (sym has.there ∙ ap (slice_get groups.groups.items) numbers ∙ there) in
    record {
      number = number;
      group = group;
      number_is = number_is;
      there = there;
      calls_are = ap (λ (each : Group). each.calls.items) (sym same) ∙ has.calls_are;
      free_are = subst (λ (each : Group). AreFree each.free (length each.calls.items) (is_free attempts each.calls.items)) same has.free_are;
    }

-- what is known of a call that failed and its group
pub record IsIn (calls : CallsOf) (order : List ℕ) (attempts : Attempts) (intervals : List Interval) (call number : ℕ) (groups : Groups) (group : Group) : Type 0 where
  pub same : calls.intervals ≡ intervals
  pub turn : AreInTurn intervals order
  pub are : AreGroups calls order attempts groups
  pub fails : IsFailed calls order call
  pub number_is : number_in groups.of_spans.items call ≡ Some number
  pub there : slice_get groups.groups.items number ≡ Some group

abbrev pub Takes : List Interval → Moment → Group → Option ℕ → FreePlaces → Type 0
Takes intervals end group taken places = (free : ℕ → Bool) → IsNonDecreasingBy (start_at intervals) group.calls.items → AreFree group.free (length group.calls.items) free → HasTaken intervals end free group.calls.items taken places

takes_own : (calls : CallsOf) (order : List ℕ) (attempts : Attempts) (intervals : List Interval) (end : Moment) (call : ℕ) (groups : Groups) (taken : Option ℕ) (places : FreePlaces) (has : HasGroup calls order attempts call groups) → AreInTurn intervals order → Takes intervals end has.group taken places
    → HasTaken intervals end (is_free attempts has.group.calls.items) has.group.calls.items taken places
takes_own calls order attempts intervals end call groups taken places has turn takes = takes (is_free attempts has.group.calls.items) (group_rises calls order intervals call has.group.calls.items turn has.calls_are) has.free_are

pub taken_first : (calls : CallsOf) (order : List ℕ) (attempts : Attempts) (intervals : List Interval) (end : Moment) (call number : ℕ) (groups : Groups) (group : Group) (taken : Option ℕ) (places : FreePlaces) → IsIn calls order attempts intervals call number groups group → end_moment (interval_at intervals call) ≡ Some end
    → Takes intervals end group taken places → taken ≡ first_try calls order attempts call
unfolding group_is
taken_first calls order attempts intervals end call number groups group taken places is ends takes =
    let has = group_is calls order attempts call number groups group (is.are.each call is.fails) is.number_is is.there in
    first_taken calls order attempts intervals end call groups taken places is.same ends has (takes_own calls order attempts intervals end call groups taken places has is.turn takes)

pub taken_groups : (calls : CallsOf) (order : List ℕ) (attempts : Attempts) (intervals : List Interval) (end : Moment) (call number : ℕ) (groups new : Groups) (group new_group : Group) (taken : Option ℕ) → IsIn calls order attempts intervals call number groups group → AreSet groups new number group new_group
    → Takes intervals end group taken new_group.free → AreGroups calls order (with_try attempts call taken) new
unfolding group_is
taken_groups calls order attempts intervals end call number groups new group new_group taken is set_so takes =
    let has = group_is calls order attempts call number groups group (is.are.each call is.fails) is.number_is is.there in
    taken_by calls order attempts intervals end call groups new new_group taken is.turn is.are is.fails has set_so (takes_own calls order attempts intervals end call groups taken new_group.free has is.turn takes)

-- a call that failed has a number, and its group is there
pub has_number_there : (calls : CallsOf) (order : List ℕ) (attempts : Attempts) (call number : ℕ) (groups : Groups) → AreGroups calls order attempts groups → IsFailed calls order call → number_in groups.of_spans.items call ≡ Some number → number < length groups.groups.items
has_number_there calls order attempts call number groups are fails is =
    let has = are.each call fails in
    let within : has.number < length groups.groups.items = slice_get_within groups.groups.items has.number has.group has.there in
    let same : has.number ≡ number = same_Some has.number number (sym has.number_is ∙ is) in
    omega arith

pub has_some_number : (calls : CallsOf) (order : List ℕ) (attempts : Attempts) (call : ℕ) (groups : Groups) → AreGroups calls order attempts groups → IsFailed calls order call → number_in groups.of_spans.items call ≡ None → ⊥
has_some_number calls order attempts call groups are fails none = let has = are.each call fails in none-some has.number (sym none ∙ has.number_is)

-- what stands at the number that was taken
pub take_at : (intervals : List Interval) (end : Moment) (free : ℕ → Bool) (calls : List ℕ) (from number : ℕ) (places : FreePlaces) (taken : Option ℕ) → IsFirstAfter intervals end calls from → IsFirstFree (length calls) free from number → taken ≡ slice_get calls number
    → AreFree places (length calls) (with_free free number false) → HasTaken intervals end free calls taken places
take_at intervals end free calls from number places None first one is are = absurd (none_there calls number one.1 (sym is))
  where
    none_there : (xs : List ℕ) (k : ℕ) → k < length xs → slice_get xs k ≡ None → ⊥
    none_there [] k lt none = omega arith
    none_there (x ∷ xs) zero lt none = none-some x (sym none)
    none_there (x ∷ xs) (suc k) lt none = none_there xs k (omega arith) none
take_at intervals end free calls from number places (Some call) first one is are = take_one intervals end free calls from number call places first one (sym is) are
