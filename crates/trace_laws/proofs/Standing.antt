-- How the spans of a trace stand to each other, and when they go.
use Rattle.std.proofs.Common.{◌≡◌, ℕ, ℤ, suc, zero, ◌+◌, ◌<◌, ◌≤◌, List, [], ◌∷◌, ◌++◌, Bool, true, false, cond, fold, length, map, min, Option, Some, None, Result, Ok, Err, refl, sym, ap, ◌∙◌, inl, inr, subst, arith, zero-add}
use Rattle.std.specs.Prelude.{◌⊎◌, ◌&&◌, ◌||◌, filter, find, nat_eq, nat_le, not, option_and_then, option_map, slice_get, slice_set, IsPermutation}
use Rattle.std.specs.List.{AllByRecursion as Each, last_or, list_any, position_from, range_with_len, zip}
use Rattle.std.specs.Option.{option_eq}
use Rattle.std.proofs.lemmas.Bool.{true≢false}
use Rattle.std.proofs.lemmas.Bool.Decides.{nat_tests}
use Rattle.std.proofs.lemmas.List.{length-map}
use Rattle.std.proofs.lemmas.List.FromFn.{get_or-map-range_with_len, length-map-range_with_len}
use Rattle.std.proofs.lemmas.Option.{none-some, same_Some, slice_get-get_or, slice_get-map, slice_get_within}
use Rattle.trace_relations.specs.Ancestry.{host_of, known, line, most_spans, parent_at, start_at}
use Rattle.trace_relations.specs.Attempts.{Attempts, attempts_of, tried_once}
use Rattle.trace_relations.specs.ByStart.{AreByStart, all_starts, starts_from}
use Rattle.trace_relations.specs.GivenUp.{Called, all_given_up, answers, ends_past, failed_by_itself, given_up_by, if_given_up, is_child, is_last_answer, is_late as is_late_span, is_unnamed, may_answer, ran_on, runs_on, sends_none, was_called}
use Rattle.trace_relations.specs.LateEnds.{end_of_caller, ended_with, if_late, is_a_little_late, late_with, with_callers_end, with_callers_ends}
use Rattle.trace_relations.specs.Calls.{is_message}
use Rattle.trace_relations.specs.Relations.{AreRelationsOf, PlainRelations, called_of, calls_of, ended, parent_meant, parents_of, relations_with, ticks_of, told_times, tried_of}
use Rattle.trace_relations.specs.Hosts.{host_at, hosts_of}
use Rattle.trace_relations.specs.Moments.{end_moment, ended_before, interval_at, start_moment}
use Rattle.trace_relations.specs.Parents.{all_references, other_place, place_of, references_from, references_of, unless_same, with_found, with_meant, with_place}
use Rattle.trace_relations.specs.Ticks.{earliest_time, interval_between, interval_of, intervals_from, intervals_of, is_late, is_too_late, last_tick, then_on, tick_of, too_late}
use Rattle.trace_relations.specs.Times.{times_from}
use Rattle.trace_relations.specs.Waits.{caller_named, is_named, waiting_parents}
use Rattle.trace_relations.specs.declared.as_told.AsTold.{AsTold}
use Rattle.trace_relations.specs.declared.fault.RelationsFault.{RelationsFault}
use Rattle.trace_relations.specs.declared.hosts.Host.{Host}
use Rattle.trace_relations.specs.declared.hosts.Host.TheVariants.{Nowhere, Inside, After}
use Rattle.trace_relations.specs.declared.moment.Interval.{Interval}
use Rattle.trace_relations.specs.declared.times.Times.{Times}
use Rattle.trace_relations.specs.declared.unit.Unit.{Unit as TickUnit}
use Rattle.trace_spans.specs.declared.span.Span.{Span}
use Rattle.trace_stages.specs.Beginnings.{links_at, links_in, links_of}
use Rattle.trace_stages.specs.TwoStages.{has_two}
use Rattle.trace_laws.proofs.Attempted.{AreAttempts, are_attempts, are_once}
use Rattle.trace_laws.proofs.Happened.{HasCalls, two_hosting, two_waiting}
use Rattle.trace_laws.proofs.Members.{AreDistinct, IsIn, distinct_append, in_either, in_filter}
use Rattle.trace_laws.proofs.Placed.{places_below, places_distinct}
use Rattle.trace_laws.proofs.Rooted.{few_distinct, has_root, parent_below}
use Rattle.trace_laws.proofs.Timed.{IsTimed, timed_at}
use Rattle.trace_laws.proofs.Visited.{HasRoot}

-- how so many spans stand to each other
pub record IsStanding (n : ℕ) (relations : PlainRelations) : Type 0 where
  pub few : n ≤ most_spans
  pub parents : length relations.parents ≡ n
  pub inside : (place host : ℕ) → slice_get relations.hosts place ≡ Some (Inside host) → host < n
  pub after : (place host : ℕ) → slice_get relations.hosts place ≡ Some (After host) → host < n
  pub links : (place link : ℕ) → IsIn link (links_at relations.references place) → link < n
  pub links_few : (place : ℕ) → length (links_at relations.references place) ≤ n
  pub rooted : (place : ℕ) → place < n → (d : ℕ) × (d ≤ most_spans) × HasRoot relations.parents d place
  pub calls : HasCalls n relations
  pub attempts : AreAttempts n relations.intervals relations.attempts
  pub by_start : AreByStart relations.intervals relations.order

-- ---- ticks

not_late : (unit : TickUnit) (origin : ℤ) (o : Option ℤ) → is_late unit origin o ≡ false → (tick : ℕ) → option_map (tick_of unit origin) o ≡ Some tick → tick ≤ last_tick
not_late unit origin None late tick e = absurd (none-some tick e)
not_late unit origin (Some time) late tick e =
    let same : tick_of unit origin time ≡ tick = same_Some _ tick e in
    let low : tick_of unit origin time ≤ last_tick = grind (arith, nat_tests) in
    subst (λ (t : ℕ). t ≤ last_tick) same low

timed_between : (start end : Option ℕ) → ((tick : ℕ) → start ≡ Some tick → tick ≤ last_tick) → ((tick : ℕ) → end ≡ Some tick → tick ≤ last_tick) → IsTimed (interval_between start end)
timed_between (Some start) (Some end) first last = record {
  start = omega (arith, first start refl);
  end = λ tick e. let same : end ≡ tick = same_Some end tick e in (subst (λ (t : ℕ). t ≤ last_tick) same (last end refl), subst (λ (t : ℕ). min start end ≤ t) same (omega arith));
}
timed_between (Some start) None first last = record { start = first start refl; end = λ tick e. absurd (none-some tick e) }
timed_between None (Some end) first last = record {
  start = last end refl;
  end = λ tick e. let same : end ≡ tick = same_Some end tick e in (subst (λ (t : ℕ). t ≤ last_tick) same (last end refl), subst (λ (t : ℕ). end ≤ t) same (omega arith));
}
timed_between None None first last = record { start = omega arith; end = λ tick e. absurd (none-some tick e) }

or_false : (a b : Bool) → (a || b) ≡ false → (a ≡ false) × (b ≡ false)
or_false true b h = absurd (true≢false h)
or_false false b h = (refl, h)

timed : (unit : TickUnit) (origin : ℤ) (times : Times) → is_too_late unit origin times ≡ false → IsTimed (interval_of unit origin times)
unfolding interval_of
timed unit origin times h =
    let both = or_false (is_late unit origin times.start) (is_late unit origin times.end) h in
    timed_between (option_map (tick_of unit origin) times.start) (option_map (tick_of unit origin) times.end) (not_late unit origin times.start both.0) (not_late unit origin times.end both.1)

record AreTimed (number : ℕ) (intervals : List Interval) : Type 0 where
  count : length intervals ≡ number
  each : Each IsTimed intervals

all_timed : (unit : TickUnit) (origin : ℤ) (late : Span → RelationsFault) (pairs : List (Span × Times)) (intervals : List Interval) → intervals_from unit origin late pairs ≡ Ok intervals → AreTimed (length pairs) intervals
all_timed unit origin late [] intervals h = let e : intervals ≡ [] = cc in record { count = ap length e; each = subst (Each IsTimed) (sym e) tt }
all_timed unit origin late ((span, times) ∷ pairs) intervals h = by (is_too_late unit origin times) refl h (λ others e. all_timed unit origin late pairs others e)
  where
    by : (b : Bool) → is_too_late unit origin times ≡ b → cond b (Err (late span)) (then_on (intervals_from unit origin late pairs) (λ others. Ok (interval_of unit origin times ∷ others))) ≡ Ok intervals
        → ((others : List Interval) → intervals_from unit origin late pairs ≡ Ok others → AreTimed (length pairs) others) → AreTimed (suc (length pairs)) intervals
    by true e is rest = absurd cc
    by false e is rest = after (intervals_from unit origin late pairs) refl is
      where
        after : (r : Result (List Interval) RelationsFault) → intervals_from unit origin late pairs ≡ r → then_on r (λ others. Ok (interval_of unit origin times ∷ others)) ≡ Ok intervals → AreTimed (suc (length pairs)) intervals
        after (Err fault) f g = absurd cc
        after (Ok others) f g =
            let more = rest others f in
            let same : interval_of unit origin times ∷ others ≡ intervals = cc in
            subst (AreTimed (suc (length pairs))) same (record { count = ap suc more.count; each = (timed unit origin times e, more.each) })

zipped : (moves : ℕ → ℤ) (k : ℕ) (spans : List Span) → length (zip spans (times_from moves k spans)) ≡ length spans
zipped moves k [] = refl
zipped moves k (span ∷ spans) = ap suc (zipped moves (k + 1) spans)

same_told : (x y : ℤ × List Interval) → ◌≡◌ {A = Result (ℤ × List Interval) RelationsFault} (Ok x) (Ok y) → x ≡ y
same_told x y e = cc

told_ticks : (unit : TickUnit) (as_told : AsTold) (spans : List Span) (origin : ℤ) (intervals : List Interval) → ticks_of unit as_told spans ≡ Ok (origin, intervals) → intervals_of unit origin spans (told_times as_told spans) ≡ Ok intervals
told_ticks unit as_told spans origin intervals h = by_origin (earliest_time spans (told_times as_told spans)) h
  where
    by_intervals : (first : ℤ) (r : Result (List Interval) RelationsFault) → intervals_of unit first spans (told_times as_told spans) ≡ r → then_on {A = List Interval} {B = ℤ × List Interval} r (λ those. Ok (first, those)) ≡ Ok (origin, intervals) → intervals_of unit origin spans (told_times as_told spans) ≡ Ok intervals
    by_intervals first (Err fault) e is = absurd cc
    by_intervals first (Ok those) e is =
        let both = same_told (first, those) (origin, intervals) is in
        let begins : first ≡ origin = ap (λ (p : ℤ × List Interval). p.0) both in
        let goes : those ≡ intervals = ap (λ (p : ℤ × List Interval). p.1) both in
        subst (λ (z : ℤ). intervals_of unit z spans (told_times as_told spans) ≡ Ok intervals) begins (e ∙ ap Ok goes)

    by_origin : (r : Result ℤ RelationsFault) → then_on {A = ℤ} {B = ℤ × List Interval} r (λ first. then_on {A = List Interval} {B = ℤ × List Interval} (intervals_of unit first spans (told_times as_told spans)) (λ those. Ok (first, those))) ≡ Ok (origin, intervals) → intervals_of unit origin spans (told_times as_told spans) ≡ Ok intervals
    by_origin (Err fault) is = absurd cc
    by_origin (Ok first) is = by_intervals first (intervals_of unit first spans (told_times as_told spans)) refl is

ticks_timed : (unit : TickUnit) (as_told : AsTold) (spans : List Span) (origin : ℤ) (intervals : List Interval) → ticks_of unit as_told spans ≡ Ok (origin, intervals) → AreTimed (length spans) intervals
ticks_timed unit as_told spans origin intervals h =
    let times = told_times as_told spans in
    let all = all_timed unit origin (too_late origin spans times) (zip spans times) intervals (told_ticks unit as_told spans origin intervals h) in
    subst (λ (m : ℕ). AreTimed m intervals) (zipped _ 0 spans) all

-- ---- ends that are a little late

both_of : (a b : Bool) → (a && b) ≡ true → (a ≡ true) × (b ≡ true)
both_of true b h = (refl, h)
both_of false b h = absurd (true≢false (sym h))

low_by : (a b : ℕ) → nat_le a b ≡ true → a ≤ b
low_by a b h = grind (arith, nat_tests)

set_starts : (k place : ℕ) (intervals : List Interval) (new : Interval) → new.start ≡ (interval_at intervals place).start → starts_from k (slice_set intervals place new) ≡ starts_from k intervals
set_starts k place [] new e = refl
set_starts k zero (x ∷ xs) new e = ap (λ s. (s, k) ∷ starts_from (k + 1) xs) e
set_starts k (suc place) (x ∷ xs) new e = ap (λ l. (x.start, k) ∷ l) (set_starts (k + 1) place xs new e)

set_length : (place : ℕ) (intervals : List Interval) (new : Interval) → length (slice_set intervals place new) ≡ length intervals
set_length place [] new = refl
set_length zero (x ∷ xs) new = refl
set_length (suc place) (x ∷ xs) new = ap suc (set_length place xs new)

set_timed : (place : ℕ) (intervals : List Interval) (new : Interval) → Each IsTimed intervals → IsTimed new → Each IsTimed (slice_set intervals place new)
set_timed place [] new all is = tt
set_timed zero (x ∷ xs) new all is = (is, all.1)
set_timed (suc place) (x ∷ xs) new all is = (all.0, set_timed place xs new all.1 is)

late_start : (start : ℕ) (end : Option ℕ) (callers_start : ℕ) (callers_end : Option ℕ) (tick : ℕ) → late_with start end callers_start callers_end ≡ true → callers_end ≡ Some tick → start ≤ tick
late_start start None callers_start None tick h e = absurd (true≢false (sym h))
late_start start None callers_start (Some last) tick h e = absurd (true≢false (sym h))
late_start start (Some end) callers_start None tick h e = absurd (true≢false (sym h))
late_start start (Some end) callers_start (Some last) tick h e =
    let first = both_of (nat_le callers_start start) _ h in
    let second = both_of (nat_le start last) _ first.1 in
    subst (λ (k : ℕ). start ≤ k) (same_Some last tick e) (low_by start last second.0)

record IsLate (interval : Interval) (caller : Interval) (tick : ℕ) : Type 0 where
  late : is_a_little_late interval caller ≡ true
  end : caller.end ≡ Some tick

if_late_is : (span calling : Option Span) (interval caller : Interval) (tick : ℕ) → if_late span calling interval caller ≡ Some tick → IsLate interval caller tick
if_late_is None None interval caller tick h = absurd (none-some tick h)
if_late_is None (Some calling) interval caller tick h = absurd (none-some tick h)
if_late_is (Some span) None interval caller tick h = absurd (none-some tick h)
if_late_is (Some span) (Some calling) interval caller tick h = by (not calling.failed && (not (is_message calling span) && is_a_little_late interval caller)) refl h
  where
    by : (b : Bool) → (not calling.failed && (not (is_message calling span) && is_a_little_late interval caller)) ≡ b → cond b caller.end None ≡ Some tick → IsLate interval caller tick
    by true e is =
        let first = both_of (not calling.failed) (not (is_message calling span) && is_a_little_late interval caller) e in
        let second = both_of (not (is_message calling span)) (is_a_little_late interval caller) first.1 in
        record { late = second.1; end = is }
    by false e is = absurd (none-some tick is)

late_timed : (spans : List Span) (references : List (List ℕ × Bool)) (intervals : List Interval) (place tick : ℕ) → Each IsTimed intervals → end_of_caller spans references intervals place ≡ Some tick
    → IsTimed (record { start = (interval_at intervals place).start; end = Some tick })
late_timed spans references intervals place tick all h = by (caller_named references place) h
  where
    by : (o : Option ℕ) → option_and_then (λ caller. if_late (slice_get spans place) (slice_get spans caller) (interval_at intervals place) (interval_at intervals caller)) o ≡ Some tick
        → IsTimed (record { start = (interval_at intervals place).start; end = Some tick })
    by None is = absurd (none-some tick is)
    by (Some caller) is =
        let late = if_late_is (slice_get spans place) (slice_get spans caller) (interval_at intervals place) (interval_at intervals caller) tick is in
        let own = timed_at intervals place all in
        let callers = timed_at intervals caller all in
        let ends = callers.end tick late.end in
        let after = late_start (interval_at intervals place).start (interval_at intervals place).end (interval_at intervals caller).start (interval_at intervals caller).end tick late.late late.end in
        record {
          start = own.start;
          end = λ other e. (subst (λ (k : ℕ). k ≤ last_tick) (same_Some tick other e) ends.0, subst (λ (k : ℕ). (interval_at intervals place).start ≤ k) (same_Some tick other e) after);
        }

record AreEnded (before : List Interval) (after : List Interval) : Type 0 where
  count : length after ≡ length before
  starts : all_starts after ≡ all_starts before
  each : Each IsTimed after

one_ended : (spans : List Span) (references : List (List ℕ × Bool)) (intervals : List Interval) (place : ℕ) → Each IsTimed intervals → AreEnded intervals (with_callers_end spans references intervals place)
one_ended spans references intervals place all = by (end_of_caller spans references intervals place) refl
  where
    by : (o : Option ℕ) → end_of_caller spans references intervals place ≡ o → AreEnded intervals (ended_with intervals place o)
    by None e = record { count = refl; starts = refl; each = all }
    by (Some tick) e =
        let new : Interval = record { start = (interval_at intervals place).start; end = Some tick } in
        record { count = set_length place intervals new; starts = set_starts 0 place intervals new refl; each = set_timed place intervals new all (late_timed spans references intervals place tick all e) }

all_ended : (spans : List Span) (references : List (List ℕ × Bool)) (order : List ℕ) (intervals : List Interval) → Each IsTimed intervals → AreEnded intervals (fold (with_callers_end spans references) intervals order)
all_ended spans references [] intervals all = record { count = refl; starts = refl; each = all }
all_ended spans references (place ∷ order) intervals all =
    let one = one_ended spans references intervals place all in
    let rest = all_ended spans references order (with_callers_end spans references intervals place) one.each in
    record { count = rest.count ∙ one.count; starts = rest.starts ∙ one.starts; each = rest.each }

ended_timed : (as_told : AsTold) (spans : List Span) (order : List ℕ) (intervals : List Interval) → Each IsTimed intervals → AreEnded intervals (ended as_told spans order intervals)
ended_timed as_told spans order intervals all = by as_told.clocks
  where
    by : (b : Bool) → AreEnded intervals (cond b intervals (with_callers_ends spans (all_references spans) order intervals))
    by true = record { count = refl; starts = refl; each = all }
    by false = all_ended spans (all_references spans) order intervals all

still_by_start : (before after : List Interval) (order : List ℕ) → all_starts after ≡ all_starts before → AreByStart before order → AreByStart after order
still_by_start before after order same by_start =
    let sorted = by_start.1 in
    (by_start.0, (subst (λ (all : List (ℕ × ℕ)). IsPermutation all by_start.0) (sym same) sorted.0, sorted.1), by_start.2)

-- ---- references

position_below : {X : Type 0} (p : X → Bool) (i : ℕ) (xs : List X) (k : ℕ) → position_from p i xs ≡ Some k → k < i + length xs
position_below p i [] k h = absurd (none-some k h)
position_below p i (x ∷ xs) k h = by (p x) h (position_below p (i + 1) xs k)
  where
    by : (b : Bool) → cond b (Some i) (position_from p (i + 1) xs) ≡ Some k → (position_from p (i + 1) xs ≡ Some k → k < i + 1 + length xs) → k < i + length (x ∷ xs)
    by true e more = let same : i ≡ k = same_Some i k e in omega arith
    by false e more = omega (arith, more e)

-- places of so many spans, each once
record AreMet (n : ℕ) (places : List ℕ) : Type 0 where
  distinct : AreDistinct places
  low : (place : ℕ) → IsIn place places → place < n

none_met : (n : ℕ) → AreMet n []
none_met n = record { distinct = tt; low = λ place h. absurd h }

any_is : (q : ℕ) (xs : List ℕ) → IsIn q xs → list_any (nat_eq q) xs ≡ true
any_is q [] h = absurd h
any_is q (x ∷ xs) h = elim h [
  | inl e ↦ ap (λ b. b || list_any (nat_eq q) xs) (ap (nat_eq q) (sym e) ∙ self q)
  | inr t ↦ ap (λ b. nat_eq q x || b) (any_is q xs t) ∙ or_true (nat_eq q x)
]
  where
    self : (k : ℕ) → nat_eq k k ≡ true
    self k = grind (arith, nat_tests)

    or_true : (b : Bool) → (b || true) ≡ true
    or_true true = refl
    or_true false = refl

place_met : (n : ℕ) (met : List ℕ) (place : ℕ) → AreMet n met → place < n → AreMet n (with_place met place)
place_met n met place are low = by (list_any (nat_eq place) met) refl
  where
    by : (b : Bool) → list_any (nat_eq place) met ≡ b → AreMet n (cond b met (met ++ place ∷ []))
    by true e = are
    by false e = record {
      distinct = distinct_append met (place ∷ []) are.distinct (λ h. h, tt) (λ x l r. elim r [ inl same ↦ true≢false (sym (any_is place met (subst (λ (q : ℕ). IsIn q met) same l)) ∙ e) | inr none ↦ none ]);
      low = λ q h. elim (in_either q met (place ∷ []) h) [ inl l ↦ are.low q l | inr r ↦ elim r [ inl same ↦ subst (λ (k : ℕ). k < n) (sym same) low | inr none ↦ absurd none ] ];
    }

other_below : (spans : List Span) (place : ℕ) (id : List ℕ) (q : ℕ) → other_place spans place id ≡ Some q → q < length spans
other_below spans place id q h = by (place_of spans id) refl h
  where
    by : (o : Option ℕ) → place_of spans id ≡ o → option_and_then (unless_same place) o ≡ Some q → q < length spans
    by None e is = absurd (none-some q is)
    by (Some found) e is = pick _ is
      where
        low : found < length spans
        low = let lower = position_below (λ (span : Span). _) 0 spans found e in omega arith

        pick : (b : Bool) → cond b None (Some found) ≡ Some q → q < length spans
        pick true same = absurd (none-some q same)
        pick false same = subst (λ (k : ℕ). k < length spans) (same_Some found q same) low

found_met : (n : ℕ) (met : List ℕ) (o : Option ℕ) → AreMet n met → ((q : ℕ) → o ≡ Some q → q < n) → AreMet n (with_found met o)
found_met n met None are low = are
found_met n met (Some place) are low = place_met n met place are (low place refl)

meant_met : (spans : List Span) (place : ℕ) (ids : List (List ℕ)) (met : List ℕ) → AreMet (length spans) met → AreMet (length spans) (with_meant spans place met ids)
meant_met spans place [] met are = are
meant_met spans place (id ∷ ids) met are =
    meant_met spans place ids (with_found met (other_place spans place id)) (found_met (length spans) met (other_place spans place id) are (λ q e. other_below spans place id q e))

references_met : (spans : List Span) (k : ℕ) (xs : List Span) (p : ℕ) (refs : List ℕ × Bool) → slice_get (references_from spans k xs) p ≡ Some refs → AreMet (length spans) refs.0
references_met spans k [] p refs h = absurd (none-some refs h)
references_met spans k (span ∷ rest) zero refs h =
    let first = meant_met spans k span.parents [] (none_met (length spans)) in
    let all = meant_met spans k span.links (with_meant spans k [] span.parents) first in
    subst (λ (r : List ℕ × Bool). AreMet (length spans) r.0) (same_Some (references_of spans k span) refs h) all
references_met spans k (span ∷ rest) (suc p) refs h = references_met spans (k + 1) rest p refs h

references_length : (spans : List Span) (k : ℕ) (xs : List Span) → length (references_from spans k xs) ≡ length xs
references_length spans k [] = refl
references_length spans k (x ∷ xs) = ap suc (references_length spans (k + 1) xs)

links_met : (spans : List Span) (place : ℕ) → AreMet (length spans) (links_at (all_references spans) place)
links_met spans place = by (slice_get (all_references spans) place) refl
  where
    rest : (places : List ℕ) → AreMet (length spans) places → AreMet (length spans) (links_of places)
    rest [] are = none_met (length spans)
    rest (p ∷ ps) are = record { distinct = let d = are.distinct in d.1; low = λ q h. are.low q (inr h) }

    by : (o : Option (List ℕ × Bool)) → slice_get (all_references spans) place ≡ o → AreMet (length spans) (links_in o)
    by None e = none_met (length spans)
    by (Some refs) e = rest refs.0 (references_met spans 0 spans place refs e)

parent_meant_below : (spans : List Span) (p q : ℕ) → parent_at (map parent_meant (all_references spans)) p ≡ Some q → q < length spans
parent_meant_below spans p q h = by (slice_get (all_references spans) p) refl (known_some _ (sym (ap_known (slice_get-map parent_meant (all_references spans) p)) ∙ h))
  where
    ap_known : {a b : Option (Option ℕ)} → a ≡ b → known a ≡ known b
    ap_known e = ap known e

    known_some : (o : Option (Option ℕ)) → known o ≡ Some q → o ≡ Some (Some q)
    known_some None e = absurd (none-some q e)
    known_some (Some r) e = ap Some e

    by : (o : Option (List ℕ × Bool)) → slice_get (all_references spans) p ≡ o → option_map parent_meant o ≡ Some (Some q) → q < length spans
    by None e is = absurd cc
    by (Some refs) e is =
        let met = references_met spans 0 spans p refs e in
        let first : slice_get refs.0 0 ≡ Some q = cc in
        met.low q (first_in refs.0 first)
      where
        first_in : (xs : List ℕ) → slice_get xs 0 ≡ Some q → IsIn q xs
        first_in [] f = absurd (none-some q f)
        first_in (x ∷ xs) f = inl (sym (same_Some x q f))

-- ---- hosts

find_in : {X : Type 0} (p : X → Bool) (xs : List X) (x : X) → find p xs ≡ Some x → IsIn x xs
find_in p [] x h = absurd (none-some x h)
find_in p (y ∷ ys) x h = by (p y) h (find_in p ys x)
  where
    by : (b : Bool) → cond b (Some y) (find p ys) ≡ Some x → (find p ys ≡ Some x → IsIn x ys) → IsIn x (y ∷ ys)
    by true e more = inl (sym (same_Some y x e))
    by false e more = inr (more e)

line_below : (parents : List (Option ℕ)) (n : ℕ) → ((p q : ℕ) → parent_at parents p ≡ Some q → q < n) → (k : ℕ) (first : Option ℕ) → ((q : ℕ) → first ≡ Some q → q < n) → (x : ℕ) → IsIn x (line parents k first) → x < n
unfolding line
line_below parents n low zero first here x h = absurd h
line_below parents n low (suc k) None here x h = absurd h
line_below parents n low (suc k) (Some place) here x h = elim h [
  | inl e ↦ subst (λ (q : ℕ). q < n) (sym e) (here place refl)
  | inr t ↦ line_below parents n low k (parent_at parents place) (λ q e. low place q e) x t
]

host_below : (intervals : List Interval) (parents : List (Option ℕ)) (n : ℕ) → ((p q : ℕ) → parent_at parents p ≡ Some q → q < n) → (place host : ℕ) → host_of intervals parents place ≡ Some host → host < n
host_below intervals parents n low place host h =
    line_below parents n low most_spans (parent_at parents place) (λ q e. low place q e) host
    (find_in (λ other. nat_le (start_at intervals other) (start_at intervals place)) (line parents most_spans (parent_at parents place)) host h)

-- the span in which or after which a span starts
abbrev host_place : Host → Option ℕ
host_place Nowhere = None
host_place (Inside host) = Some host
host_place (After host) = Some host

host_at_place : (intervals : List Interval) (place : ℕ) (o : Option ℕ) → host_place (host_at intervals place o) ≡ o
host_at_place intervals place None = refl
host_at_place intervals place (Some host) = by (ended_before (interval_at intervals host) (start_moment (interval_at intervals place)))
  where
    by : (b : Bool) → host_place (cond b (After host) (Inside host)) ≡ Some host
    by true = refl
    by false = refl

hosts_below : (intervals : List Interval) (parents : List (Option ℕ)) (n : ℕ) → ((p q : ℕ) → parent_at parents p ≡ Some q → q < n) → (place host : ℕ) (h : Host) → slice_get (hosts_of intervals parents) place ≡ Some h → host_place h ≡ Some host → host < n
hosts_below intervals parents n low place host h at is =
    let all = hosts_of intervals parents in
    let within = slice_get_within all place h at in
    let lower : place < length parents = subst (λ (k : ℕ). place < k) (length-map-range_with_len (λ p. host_at intervals p (host_of intervals parents p)) 0 (length parents)) within in
    let told : host_at intervals place (host_of intervals parents place) ≡ h =
    sym (get_or-map-range_with_len (λ p. host_at intervals p (host_of intervals parents p)) 0 (length parents) place place h lower (zero-add place)) ∙ same_Some _ h (sym (slice_get-get_or all place h within) ∙ at) in
    host_below intervals parents n low place host (sym (host_at_place intervals place (host_of intervals parents place)) ∙ ap host_place told ∙ is)

-- ---- calls that were given up

some_equal : (o : Option ℕ) (p : ℕ) → option_eq nat_eq o (Some p) ≡ true → o ≡ Some p
some_equal None p h = absurd (true≢false (sym h))
some_equal (Some q) p h = let e : q ≡ p = grind (arith, nat_tests) in ap Some e

known_of_some : (o : Option (Option ℕ)) (q : ℕ) → known o ≡ Some q → o ≡ Some (Some q)
known_of_some None q e = absurd (none-some q e)
known_of_some (Some r) q e = ap Some e

last_in : (o : Option ℕ) (xs : List ℕ) (x : ℕ) → last_or o xs ≡ Some x → (o ≡ Some x) ⊎ IsIn x xs
last_in o [] x h = inl h
last_in o (y ∷ ys) x h = elim (last_in (Some y) ys x h) [ inl e ↦ inr (inl (sym (same_Some y x e))) | inr t ↦ inr (inr t) ]

not_true : (b : Bool) → not b ≡ true → b ≡ false
not_true true h = absurd (true≢false (sym h))
not_true false h = refl

record IsGivenUp (called : Called) (order : List ℕ) (child : ℕ) (caller : ℕ) : Type 0 where
  parent : parent_at called.parents child ≡ Some caller
  was : was_called called order caller child ≡ true

given_up_is : (called : Called) (order : List ℕ) (child caller : ℕ) → given_up_by called order child ≡ Some caller → IsGivenUp called order child caller
given_up_is called order child caller h = by (parent_at called.parents child) refl h
  where
    if_both : (parent : ℕ) (b : Bool) → parent_at called.parents child ≡ Some parent → (failed_by_itself called parent && was_called called order parent child) ≡ b → cond b (Some parent) None ≡ Some caller → IsGivenUp called order child caller
    if_both parent true e both is =
        let was = both_of (failed_by_itself called parent) (was_called called order parent child) both in
        subst (IsGivenUp called order child) (same_Some parent caller is) (record { parent = e; was = was.1 })
    if_both parent false e both is = absurd (none-some caller is)

    by : (o : Option ℕ) → parent_at called.parents child ≡ o → option_and_then (if_given_up called order child) o ≡ Some caller → IsGivenUp called order child caller
    by None e is = absurd (none-some caller is)
    by (Some parent) e is = if_both parent (failed_by_itself called parent && was_called called order parent child) e refl is

-- it ran on, or was to answer
ran_or_answered : (called : Called) (order : List ℕ) (child caller : ℕ) → was_called called order caller child ≡ true → (ran_on called caller child ≡ true) ⊎ (is_last_answer called order caller child ≡ true)
ran_or_answered called order child caller h = by _ h
  where
    by : (b : Bool) → cond b (ran_on called caller child && (is_late_span (slice_get called.spans caller) || is_unnamed (slice_get called.spans caller))) (is_late_span (slice_get called.spans caller) && is_last_answer called order caller child) ≡ true
        → (ran_on called caller child ≡ true) ⊎ (is_last_answer called order caller child ≡ true)
    by true is = let both = both_of (ran_on called caller child) (is_late_span (slice_get called.spans caller) || is_unnamed (slice_get called.spans caller)) is in inl both.0
    by false is = let both = both_of (is_late_span (slice_get called.spans caller)) (is_last_answer called order caller child) is in inr both.1

record RanOn (called : Called) (child : ℕ) (caller : ℕ) : Type 0 where
  starts : nat_le (start_at called.intervals caller) (start_at called.intervals child) ≡ true
  within : ended_before (interval_at called.intervals caller) (start_moment (interval_at called.intervals child)) ≡ false

ran : (called : Called) (child caller : ℕ) → ran_on called caller child ≡ true → RanOn called child caller
ran called child caller h =
    let intervals = called.intervals in
    let past = ends_past (end_moment (interval_at intervals caller)) (end_moment (interval_at intervals child)) in
    let open_still = not (ended_before (interval_at intervals caller) (start_moment (interval_at intervals child))) in
    let begins = nat_le (start_at intervals caller) (start_at intervals child) in
    let sends = sends_none (slice_get called.spans caller) (slice_get called.spans child) in
    let zeroth = both_of (is_child called.parents caller child) (runs_on called caller child) h in
    let first = both_of (is_named called.references child) (sends && (begins && (open_still && past))) zeroth.1 in
    let second = both_of sends (begins && (open_still && past)) first.1 in
    let third = both_of begins (open_still && past) second.1 in
    let fourth = both_of open_still past third.1 in
    record { starts = third.0; within = not_true _ fourth.0 }

answered_waits : (called : Called) (order : List ℕ) (child caller : ℕ) → is_last_answer called order caller child ≡ true → parent_at called.waiting child ≡ Some caller
answered_waits called order child caller h =
    elim (last_in None (filter (may_answer called caller) order) child (some_equal (last_or None (filter (may_answer called caller) order)) child h)) [
      | inl none ↦ absurd (none-some child none)
      | inr t ↦ (
          let found = in_filter (may_answer called caller) order child t in
          let both = both_of (is_child called.waiting caller child) (answers called caller child) found.1 in
          some_equal (parent_at called.waiting child) caller both.0
          )
    ]

find_line : (p : ℕ → Bool) (parents : List (Option ℕ)) (k : ℕ) (o : Option ℕ) (caller : ℕ) → 0 < k → o ≡ Some caller → p caller ≡ true → find p (line parents k o) ≡ Some caller
unfolding line
find_line p parents zero o caller some e is = absurd (omega arith)
find_line p parents (suc k) None caller some e is = absurd (none-some caller e)
find_line p parents (suc k) (Some first) caller some e is =
    let same : first ≡ caller = same_Some first caller e in
    ap (λ b. cond b (Some first) (find p (line parents k (parent_at parents first)))) (ap p same ∙ is) ∙ ap Some same

hosted_at : (intervals : List Interval) (parents : List (Option ℕ)) (place : ℕ) → place < length parents → slice_get (hosts_of intervals parents) place ≡ Some (host_at intervals place (host_of intervals parents place))
hosted_at intervals parents place low =
    slice_get-get_or (hosts_of intervals parents) place Nowhere (subst (λ (k : ℕ). place < k) (sym (length-map-range_with_len (λ p. host_at intervals p (host_of intervals parents p)) 0 (length parents))) low)
    ∙ ap Some (get_or-map-range_with_len (λ p. host_at intervals p (host_of intervals parents p)) 0 (length parents) place place Nowhere low (zero-add place))

-- what ran on began inside its caller
ran_inside : (called : Called) (child caller : ℕ) → parent_at called.parents child ≡ Some caller → RanOn called child caller → slice_get (hosts_of called.intervals called.parents) child ≡ Some (Inside caller)
ran_inside called child caller parent is =
    let intervals = called.intervals in
    let within = slice_get_within called.parents child (Some caller) (known_of_some (slice_get called.parents child) caller parent) in
    let host : host_of intervals called.parents child ≡ Some caller =
    find_line (λ other. nat_le (start_at intervals other) (start_at intervals child)) called.parents most_spans (parent_at called.parents child) caller (omega arith) parent is.starts in
    hosted_at intervals called.parents child within ∙ ap (λ o. Some (host_at intervals child o)) host ∙ ap (λ b. Some (cond b (After caller) (Inside caller))) is.within

given_two : (called : Called) (order : List ℕ) (child caller : ℕ) → given_up_by called order child ≡ Some caller → has_two (hosts_of called.intervals called.parents) called.waiting caller ≡ true
given_two called order child caller h =
    let is = given_up_is called order child caller h in
    elim (ran_or_answered called order child caller is.was) [
      | inl ran_so ↦ two_hosting (hosts_of called.intervals called.parents) called.waiting caller child (ran_inside called child caller is.parent (ran called child caller ran_so))
      | inr answered ↦ two_waiting (hosts_of called.intervals called.parents) called.waiting caller child (known_of_some (slice_get called.waiting child) caller (answered_waits called order child caller answered))
    ]

mapped_parent : (f : ℕ → Option ℕ) (m child q : ℕ) → parent_at (map f (range_with_len 0 m)) child ≡ Some q → f child ≡ Some q
mapped_parent f m child q h =
    let all = map f (range_with_len 0 m) in
    let at = known_of_some (slice_get all child) q h in
    let within = slice_get_within all child (Some q) at in
    let low : child < m = subst (λ (k : ℕ). child < k) (length-map-range_with_len f 0 m) within in
    sym (get_or-map-range_with_len f 0 m child child (Some q) low (zero-add child)) ∙ same_Some _ (Some q) (sym (slice_get-get_or all child (Some q) within) ∙ at)

none_given : (spans : List Span) (child q : ℕ) → parent_at (map (λ (span : Span). None) spans) child ≡ Some q → ⊥
none_given [] child q h = none-some q h
none_given (span ∷ spans) zero q h = none-some q h
none_given (span ∷ spans) (suc child) q h = none_given spans child q h

-- ---- all

abbrev hosts_by : List Span → List Interval → List Host
hosts_by spans intervals = hosts_of intervals (parents_of spans intervals)

abbrev waiting_by : List Span → List Interval → List (Option ℕ)
waiting_by spans intervals = waiting_parents spans intervals (all_references spans) (parents_of spans intervals)

abbrev tried_by : AsTold → List Span → List Interval → List ℕ → Attempts
tried_by as_told spans intervals order = tried_of as_told spans intervals order (hosts_by spans intervals) (waiting_by spans intervals)

abbrev called_by : AsTold → List Span → List Interval → List ℕ → Called
called_by as_told spans intervals order = called_of spans intervals (parents_of spans intervals) (waiting_by spans intervals) (tried_by as_told spans intervals order)

attempts_if : (b : Bool) (spans : List Span) (intervals : List Interval) (order : List ℕ) → AreTimed (length spans) intervals → AreByStart intervals order
    → AreAttempts (length spans) intervals (cond b tried_once (attempts_of (calls_of spans intervals (hosts_by spans intervals) (waiting_by spans intervals)) order))
attempts_if true spans intervals order times by_start = are_once (length spans) intervals
attempts_if false spans intervals order times by_start =
    are_attempts (length spans) (calls_of spans intervals (hosts_by spans intervals) (waiting_by spans intervals)) order times.each
    (λ p h. subst (λ (k : ℕ). p < k) times.count (places_below intervals order by_start p h)) (places_distinct intervals order by_start)

attempts_by : (as_told : AsTold) (spans : List Span) (intervals : List Interval) (order : List ℕ) → AreTimed (length spans) intervals → AreByStart intervals order → AreAttempts (length spans) intervals (tried_by as_told spans intervals order)
attempts_by as_told spans intervals order times by_start = attempts_if as_told.calls spans intervals order times by_start

gives_if : (b : Bool) (as_told : AsTold) (spans : List Span) (intervals : List Interval) (order : List ℕ) (child span : ℕ)
    → parent_at (cond b (map (λ (s : Span). None) spans) (all_given_up (called_by as_told spans intervals order) order)) child ≡ Some span → has_two (hosts_by spans intervals) (waiting_by spans intervals) span ≡ true
gives_if true as_told spans intervals order child span h = absurd (none_given spans child span h)
gives_if false as_told spans intervals order child span h =
    given_two (called_by as_told spans intervals order) order child span (mapped_parent (given_up_by (called_by as_told spans intervals order) order) (length spans) child span h)

-- the spans of a trace with these ticks stand so to each other
standing_with : (as_told : AsTold) (spans : List Span) (origin : ℤ) (intervals : List Interval) (order : List ℕ) → AreTimed (length spans) intervals → length spans ≤ most_spans → AreByStart intervals order → IsStanding (length spans) (relations_with as_told spans origin intervals order)
standing_with as_told spans origin intervals order times few by_start =
    let old = map parent_meant (all_references spans) in
    let count : length old ≡ length spans = length-map (all_references spans) parent_meant ∙ references_length spans 0 spans in
    let within = λ (p q : ℕ) (e : parent_at old p ≡ Some q). subst (λ (k : ℕ). q < k) (sym count) (parent_meant_below spans p q e) in
    let low = λ (p q : ℕ) (e : parent_at (parents_of spans intervals) p ≡ Some q). subst (λ (k : ℕ). q < k) count (parent_below intervals old within p q e) in
    record {
      few = few;
      parents = length-map-range_with_len _ 0 (length old) ∙ count;
      inside = λ place host e. hosts_below intervals (parents_of spans intervals) (length spans) low place host (Inside host) e refl;
      after = λ place host e. hosts_below intervals (parents_of spans intervals) (length spans) low place host (After host) e refl;
      links = λ place link h. let met = links_met spans place in met.low link h;
      links_few = λ place. let met = links_met spans place in few_distinct (links_at (all_references spans) place) (length spans) met.distinct met.low;
      rooted = λ place lower. has_root intervals old within (subst (λ (k : ℕ). k ≤ most_spans) (sym count) few) place (subst (λ (k : ℕ). place < k) (sym count) lower);
      calls = record {
        intervals = times.count;
        waiting = length-map-range_with_len _ 0 (length spans);
        first = λ place low_place. let tries = attempts_by as_told spans intervals order times by_start in tries.first place low_place;
        timed = times.each;
        given = λ child span h. gives_if as_told.calls as_told spans intervals order child span h;
      };
      attempts = attempts_by as_told spans intervals order times by_start;
      by_start = by_start;
    }

-- the spans of a trace stand so to each other
pub standing : (unit : TickUnit) (as_told : AsTold) (spans : List Span) (relations : PlainRelations) → AreRelationsOf unit as_told spans relations → length spans ≤ most_spans → IsStanding (length spans) relations
standing unit as_told spans relations of few =
    let times = ticks_timed unit as_told spans of.0 of.1 of.3 in
    let ends = ended_timed as_told spans of.2 of.1 times.each in
    let all : AreTimed (length spans) (ended as_told spans of.2 of.1) = record { count = ends.count ∙ times.count; each = ends.each } in
    subst (IsStanding (length spans)) (sym of.5)
    (standing_with as_told spans of.0 (ended as_told spans of.2 of.1) of.2 all few (still_by_start of.1 (ended as_told spans of.2 of.1) of.2 ends.starts of.4))
