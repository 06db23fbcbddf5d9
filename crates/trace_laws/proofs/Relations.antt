-- What holds of the spans of a trace: ticks don't go back, parents and hosts are spans of the trace, and what a span waits for ends no later.
use Rattle.std.proofs.Common.{◌≡◌, ℕ, suc, zero, ◌+◌, ◌*◌, ◌<◌, ◌≤◌, inl, inr, List, [], ◌∷◌, ◌++◌, Bool, true, false, cond, length, map, Option, Some, None, refl, sym, ap, ◌∙◌, subst, arith}
use Rattle.std.specs.Prelude.{◌⊎◌, ◌==◌, ◌&&◌, ◌||◌, ℤ, Result, Ok, Err, find, fold, nat_eq, nat_le, nat_lt, not, slice_get, slice_set, zip, IsPermutation}
use Rattle.std.specs.List.{list_any, position_from, range_with_len}
use Rattle.std.specs.Option.{option_and_then, option_eq, option_map}
use Rattle.std.proofs.lemmas.Bool.{eqb-true, false≢true, leb-false, leb-true}
use Rattle.std.proofs.lemmas.Bool.Decides.{nat_tests}
use Rattle.std.proofs.lemmas.List.FromFn.{length-map-range_with_len}
use Rattle.std.proofs.lemmas.Option.{none-some, same_Some, slice_get-map, slice_get_within}
use Rattle.trace_relations.specs.declared.hosts.Host.TheVariants.{Inside, After}
use Rattle.trace_relations.specs.declared.fault.RelationsFault.{RelationsFault}
use Rattle.trace_relations.specs.declared.moment.Interval.{Interval}
use Rattle.trace_relations.specs.declared.moment.Moment.{Moment}
use Rattle.trace_relations.specs.declared.moment.Turn.{Turn}
use Rattle.trace_relations.specs.declared.moment.Turn.TheVariants as turn
use Rattle.trace_relations.specs.declared.as_told.AsTold.{AsTold}
use Rattle.trace_relations.specs.declared.times.Times.{Times}
use Rattle.trace_relations.specs.declared.unit.Unit.{Unit as TickUnit}
use Rattle.trace_relations.specs.Ancestry.{ancestors, host_of, known, line, most_spans, parent_at, start_at}
use Rattle.trace_relations.specs.ByStart.{AreByStart, starts_from}
use Rattle.trace_relations.specs.Calls.{is_message}
use Rattle.trace_relations.specs.LateEnds.{end_of_caller, ended_with, if_late, is_a_little_late, late_with, with_callers_end, with_callers_ends}
use Rattle.trace_relations.specs.Relations.{AreRelationsOf, PlainRelations, called_of, ended, given_up_of, parent_meant, parents_of, relations_with, told_times, tried_of}
use Rattle.trace_relations.specs.Hosts.{host_at, hosts_of}
use Rattle.trace_relations.specs.Moments.{end_after, end_moment, ended_before, interval_at, is_before, is_past, start_moment, turn_number}
use Rattle.trace_relations.specs.Parents.{all_references, other_place, place_of, references_from, unless_same, with_found, with_meant}
use Rattle.trace_relations.specs.Ticks.{earliest_time, interval_between, interval_of, intervals_from, intervals_of, is_too_late, then_on, tick_of}
use Rattle.trace_relations.specs.Times.{times_from}
use Rattle.trace_relations.specs.Waits.{caller_named, ends_within, is_within, if_waiting, is_named, takes_from_queue, waiting_parent, waiting_parents}
use Rattle.trace_spans.specs.declared.span.Span.{Span}
use Rattle.trace_laws.proofs.Climbing.{left_parent, line_below}
use Rattle.trace_laws.proofs.Each.{Each, In, each-push, each-weaker}
use Rattle.trace_laws.proofs.Numbers.{number, start_number}

-- ---- tests

pub and_right : (a b : Bool) → (a && b) ≡ true → b ≡ true
and_right true b is = is
and_right false b is = absurd (false≢true is)

pub and_left : (a b : Bool) → (a && b) ≡ true → a ≡ true
and_left true b is = refl
and_left false b is = absurd (false≢true is)

-- ---- lists

pub range_get : (a n k : ℕ) → k < n → slice_get (range_with_len a n) k ≡ Some (a + k)
range_get a zero k lt = absurd (omega arith)
range_get a (suc n) zero lt = let e : a ≡ a + 0 = omega arith in ap Some e
range_get a (suc n) (suc k) lt = let e : (a + 1) + k ≡ a + suc k = omega arith in range_get (a + 1) n k (omega arith) ∙ ap Some e

pub mapped_range : {X : Type 0} (f : ℕ → X) (n k : ℕ) → k < n → slice_get (map f (range_with_len 0 n)) k ≡ Some (f k)
mapped_range f n k lt = let e : 0 + k ≡ k = omega arith in slice_get-map f (range_with_len 0 n) k ∙ ap (option_map f) (range_get 0 n k lt) ∙ ap (λ j. Some (f j)) e

range_past : (a n k x : ℕ) → slice_get (range_with_len a n) k ≡ Some x → (k < n) × (x ≡ a + k)
range_past a zero k x here = absurd (none-some x here)
range_past a (suc n) zero x here = let same : a ≡ x = same_Some a x here in (omega arith, omega arith)
range_past a (suc n) (suc k) x here = let later = range_past (a + 1) n k x here in (omega (arith, later.0), omega (arith, later.1))

mapped_some : {X : Type 0} (f : ℕ → X) (n k : ℕ) (at : Option ℕ) (x : X) → slice_get (range_with_len 0 n) k ≡ at → option_map f at ≡ Some x → (k < n) × (f k ≡ x)
mapped_some f n k None x is some = absurd (none-some x some)
mapped_some f n k (Some j) x is some =
    let at = range_past 0 n k j is in
    let e : k ≡ j = omega (arith, at.1) in
    (at.0, ap f e ∙ same_Some (f j) x some)

pub mapped_at : {X : Type 0} (f : ℕ → X) (n k : ℕ) (x : X) → slice_get (map f (range_with_len 0 n)) k ≡ Some x → (k < n) × (f k ≡ x)
mapped_at f n k x here = mapped_some f n k (slice_get (range_with_len 0 n) k) x refl (sym (slice_get-map f (range_with_len 0 n) k) ∙ here)

pub found_in : {X : Type 0} (test : X → Bool) (xs : List X) (x : X) → find test xs ≡ Some x → In xs x × (test x ≡ true)
found_in test [] x found = absurd (none-some x found)
found_in test (y ∷ ys) x found = by_test test y ys x (test y) refl found (found_in test ys x)
  where
    by_test : {X : Type 0} (test : X → Bool) (y : X) (ys : List X) (x : X) (b : Bool) → test y ≡ b → cond b (Some y) (find test ys) ≡ Some x → (find test ys ≡ Some x → In ys x × (test x ≡ true))
        → ((y ≡ x) ⊎ In ys x) × (test x ≡ true)
    by_test test y ys x true is found again = let same : y ≡ x = same_Some y x found in (inl same, subst (λ z. test z ≡ true) same is)
    by_test test y ys x false is found again = let rest = again found in (inr rest.0, rest.1)

-- what is found comes after others that fail the test
pub record IsFound {X : Type 0} (test : X → Bool) (xs : List X) (x : X) : Type 0 where
  pub before : List X
  pub after : List X
  pub split : xs ≡ before ++ x ∷ after
  pub fail : Each (λ y. test y ≡ false) before
  pub passes : test x ≡ true

pub found_split : {X : Type 0} (test : X → Bool) (xs : List X) (x : X) → find test xs ≡ Some x → IsFound test xs x
found_split test [] x found = absurd (none-some x found)
found_split test (y ∷ ys) x found = by_test test y ys x (test y) refl found (found_split test ys x)
  where
    by_test : {X : Type 0} (test : X → Bool) (y : X) (ys : List X) (x : X) (b : Bool) → test y ≡ b → cond b (Some y) (find test ys) ≡ Some x → (find test ys ≡ Some x → IsFound test ys x) → IsFound test (y ∷ ys) x
    by_test test y ys x true is found again =
        let same : y ≡ x = same_Some y x found in
        record { before = []; after = ys; split = ap (λ z. z ∷ ys) same; fail = tt; passes = subst (λ z. test z ≡ true) same is }
    by_test test y ys x false is found again =
        let rest = again found in
        record { before = y ∷ rest.before; after = rest.after; split = ap (λ those. y ∷ those) rest.split; fail = (is, rest.fail); passes = rest.passes }

pub known_known : (found : Option (Option ℕ)) (parent : ℕ) → known found ≡ Some parent → found ≡ Some (Some parent)
known_known None parent here = absurd (none-some parent here)
known_known (Some found) parent here = ap Some here

pub same_option : (found : Option ℕ) (place : ℕ) → option_eq nat_eq found (Some place) ≡ true → found ≡ Some place
same_option None place here = absurd (false≢true here)
same_option (Some other) place here = ap Some (eqb-true other place here)

position_below : {X : Type 0} (test : X → Bool) (i : ℕ) (xs : List X) (k : ℕ) → position_from test i xs ≡ Some k → k < i + length xs
position_below test i [] k found = absurd (none-some k found)
position_below test i (x ∷ xs) k found = by_test i (length xs) k (test x) (position_from test (i + 1) xs) found (position_below test (i + 1) xs k)
  where
    by_test : (i n k : ℕ) (b : Bool) (rest : Option ℕ) → cond b (Some i) rest ≡ Some k → (rest ≡ Some k → k < i + 1 + n) → k < i + suc n
    by_test i n k true rest found again = let same : i ≡ k = same_Some i k found in omega arith
    by_test i n k false rest found again = let lt : k < i + 1 + n = again found in omega arith

-- ---- what references mean are spans of the trace

other_below : (spans : List Span) (place : ℕ) (found : Option ℕ) (k : ℕ) → ((j : ℕ) → found ≡ Some j → j < length spans) → option_and_then (unless_same place) found ≡ Some k → k < length spans
other_below spans place None k below is = absurd (none-some k is)
other_below spans place (Some j) k below is = unless (j == place) is
  where
    unless : (b : Bool) → cond b None (Some j) ≡ Some k → k < length spans
    unless true is = absurd (none-some k is)
    unless false is = let lt : j < length spans = below j refl in let same : j ≡ k = same_Some j k is in omega arith

with_below : (spans : List Span) (met : List ℕ) (found : Option ℕ) → ((j : ℕ) → found ≡ Some j → j < length spans) → Each (λ q. q < length spans) met → Each (λ q. q < length spans) (with_found met found)
with_below spans met None below all = all
with_below spans met (Some place) below all = unless (list_any (nat_eq place) met)
  where
    unless : (b : Bool) → Each (λ q. q < length spans) (cond b met (met ++ place ∷ []))
    unless true = all
    unless false = each-push (λ q. q < length spans) met place all (below place refl)

meant_below : (spans : List Span) (place : ℕ) (met : List ℕ) (ids : List (List ℕ)) → Each (λ q. q < length spans) met → Each (λ q. q < length spans) (with_meant spans place met ids)
meant_below spans place met [] all = all
meant_below spans place met (id ∷ ids) all =
    meant_below spans place (with_found met (other_place spans place id)) ids
    (with_below spans met (other_place spans place id) (λ j is. other_below spans place (place_of spans id) j (λ k found. let lt : k < 0 + length spans = position_below _ 0 spans k found in omega arith) is) all)

references_below : (spans : List Span) (place : ℕ) (rest : List Span) → Each (λ references. Each (λ q. q < length spans) references.0) (references_from spans place rest)
references_below spans place [] = tt
references_below spans place (span ∷ rest) =
    (meant_below spans place (with_meant spans place [] span.parents) span.links (meant_below spans place [] span.parents tt), references_below spans (place + 1) rest)

get_each : {X : Type 0} (P : X → Type 0) (xs : List X) (k : ℕ) (x : X) → Each P xs → slice_get xs k ≡ Some x → P x
get_each P [] k x all here = absurd (none-some x here)
get_each P (y ∷ ys) zero x all here = subst P (same_Some y x here) all.0
get_each P (y ∷ ys) (suc k) x all here = get_each P ys k x all.1 here

known_meant : (n : ℕ) (references : List (List ℕ × Bool)) (at : Option (List ℕ × Bool)) (k parent : ℕ) → slice_get references k ≡ at → Each (λ those. Each (λ q. q < n) those.0) references
    → known (option_map parent_meant at) ≡ Some parent → parent < n
known_meant n references None k parent here all is = absurd (none-some parent is)
known_meant n references (Some those) k parent here all is = get_each (λ q. q < n) those.0 0 parent (get_each (λ ones. Each (λ q. q < n) ones.0) references k those all here) is

pub parents_within : (spans : List Span) (place parent : ℕ) → parent_at (map parent_meant (all_references spans)) place ≡ Some parent → parent < length spans
parents_within spans place parent is =
    known_meant (length spans) (all_references spans) (slice_get (all_references spans) place) place parent refl (references_below spans 0 spans)
    (ap known (sym (slice_get-map parent_meant (all_references spans) place)) ∙ is)

-- ---- ticks

abbrev IsForward : Interval → Type 0
IsForward interval = (end : ℕ) → interval.end ≡ Some end → interval.start ≤ end

between_forward : (start end : Option ℕ) → IsForward (interval_between start end)
between_forward (Some start) (Some end) last is = let e : end ≡ last = same_Some end last is in omega arith
between_forward (Some start) None last is = absurd (none-some last is)
between_forward None (Some end) last is = let e : end ≡ last = same_Some end last is in omega arith
between_forward None None last is = absurd (none-some last is)

interval_forward : (unit : TickUnit) (origin : ℤ) (times : Times) → IsForward (interval_of unit origin times)
unfolding interval_of
interval_forward unit origin times = between_forward (option_map (tick_of unit origin) times.start) (option_map (tick_of unit origin) times.end)

then_ok : {A B : Type 0} (r : Result A RelationsFault) (next : A → Result B RelationsFault) (b : B) → then_on r next ≡ Ok b → (a : A) × (r ≡ Ok a) × (next a ≡ Ok b)
then_ok (Ok a) next b is = (a, refl, is)
then_ok (Err fault) next b is = absurd (cc)

unless_ok : {A : Type 0} (c : Bool) (fault : RelationsFault) (r : Result A RelationsFault) (a : A) → cond c (Err fault) r ≡ Ok a → r ≡ Ok a
unless_ok true fault r a is = absurd (cc)
unless_ok false fault r a is = is

same_Ok : {A : Type 0} (a b : A) → ◌≡◌ {A = Result A RelationsFault} (Ok a) (Ok b) → a ≡ b
same_Ok a b e = cc

intervals_forward : (unit : TickUnit) (origin : ℤ) (late : Span → RelationsFault) (spans : List (Span × Times)) (intervals : List Interval) → intervals_from unit origin late spans ≡ Ok intervals
    → (length intervals ≡ length spans) × Each IsForward intervals
intervals_forward unit origin late [] intervals is = let e : [] ≡ intervals = same_Ok [] intervals is in subst (λ those. (length those ≡ 0) × Each IsForward those) e (refl, tt)
intervals_forward unit origin late ((span, times) ∷ spans) intervals is =
    let rest = then_ok (intervals_from unit origin late spans) (λ others. Ok (interval_of unit origin times ∷ others)) intervals (unless_ok (is_too_late unit origin times) (late span) _ intervals is) in
    let again = intervals_forward unit origin late spans rest.0 rest.1 in
    subst (λ those. (length those ≡ suc (length spans)) × Each IsForward those) (same_Ok (interval_of unit origin times ∷ rest.0) intervals rest.2) (ap suc again.0, (interval_forward unit origin times, again.1))

zipped_count : (moves : ℕ → ℤ) (place : ℕ) (spans : List Span) → length (zip spans (times_from moves place spans)) ≡ length spans
zipped_count moves place [] = refl
zipped_count moves place (span ∷ spans) = ap suc (zipped_count moves (place + 1) spans)

-- ---- ends that are a little late

late_forward : (start : ℕ) (end : Option ℕ) (callers_start : ℕ) (callers_end : Option ℕ) → late_with start end callers_start callers_end ≡ true → (tick : ℕ) → callers_end ≡ Some tick → start ≤ tick
late_forward start None callers_start None late tick is = absurd (false≢true late)
late_forward start None callers_start (Some callers_end) late tick is = absurd (false≢true late)
late_forward start (Some end) callers_start None late tick is = absurd (false≢true late)
late_forward start (Some end) callers_start (Some callers_end) late tick is =
    let le : start ≤ callers_end = leb-true start callers_end (and_left (nat_le start callers_end) _ (and_right (nat_le callers_start start) _ late)) in
    let e : callers_end ≡ tick = same_Some callers_end tick is in
    omega arith

if_late_forward : (span calling : Option Span) (interval caller : Interval) (end : ℕ) → if_late span calling interval caller ≡ Some end → interval.start ≤ end
if_late_forward None None interval caller end is = absurd (none-some end is)
if_late_forward None (Some calling) interval caller end is = absurd (none-some end is)
if_late_forward (Some span) None interval caller end is = absurd (none-some end is)
if_late_forward (Some span) (Some calling) interval caller end is = by_test (not calling.failed) (not (is_message calling span)) (is_a_little_late interval caller) refl is
  where
    by_test : (a b c : Bool) → is_a_little_late interval caller ≡ c → cond (a && (b && c)) caller.end None ≡ Some end → interval.start ≤ end
    by_test true true true late is = late_forward interval.start interval.end caller.start caller.end late end is
    by_test true true false late is = absurd (none-some end is)
    by_test true false c late is = absurd (none-some end is)
    by_test false b c late is = absurd (none-some end is)

caller_forward : (spans : List Span) (intervals : List Interval) (place : ℕ) (found : Option ℕ) (end : ℕ)
    → option_and_then (λ caller. if_late (slice_get spans place) (slice_get spans caller) (interval_at intervals place) (interval_at intervals caller)) found ≡ Some end → (interval_at intervals place).start ≤ end
caller_forward spans intervals place None end is = absurd (none-some end is)
caller_forward spans intervals place (Some caller) end is = if_late_forward (slice_get spans place) (slice_get spans caller) (interval_at intervals place) (interval_at intervals caller) end is

-- the same starts, and ticks that don't go back
record KeepStarts (told intervals : List Interval) : Type 0 where
  pub count : length intervals ≡ length told
  pub forward : Each IsForward intervals
  pub starts : (place : ℕ) → starts_from place intervals ≡ starts_from place told

set_count : (intervals : List Interval) (place : ℕ) (interval : Interval) → length (slice_set intervals place interval) ≡ length intervals
set_count [] place interval = refl
set_count (first ∷ intervals) zero interval = refl
set_count (first ∷ intervals) (suc place) interval = ap suc (set_count intervals place interval)

set_forward : (intervals : List Interval) (place : ℕ) (interval : Interval) → IsForward interval → Each IsForward intervals → Each IsForward (slice_set intervals place interval)
set_forward [] place interval forward all = tt
set_forward (first ∷ intervals) zero interval forward all = (forward, all.1)
set_forward (first ∷ intervals) (suc place) interval forward all = (all.0, set_forward intervals place interval forward all.1)

set_starts : (intervals : List Interval) (place : ℕ) (interval : Interval) → interval.start ≡ (interval_at intervals place).start → (a : ℕ) → starts_from a (slice_set intervals place interval) ≡ starts_from a intervals
set_starts [] place interval same a = refl
set_starts (first ∷ intervals) zero interval same a = ap (λ start. (start, a) ∷ starts_from (a + 1) intervals) same
set_starts (first ∷ intervals) (suc place) interval same a = ap (λ rest. (first.start, a) ∷ rest) (set_starts intervals place interval same (a + 1))

end_kept : (told intervals : List Interval) (place : ℕ) (end : Option ℕ) → ((tick : ℕ) → end ≡ Some tick → (interval_at intervals place).start ≤ tick) → KeepStarts told intervals → KeepStarts told (ended_with intervals place end)
end_kept told intervals place None later kept = kept
end_kept told intervals place (Some tick) later kept = record {
  count = set_count intervals place (record { start = (interval_at intervals place).start; end = Some tick }) ∙ kept.count;
  forward = set_forward intervals place (record { start = (interval_at intervals place).start; end = Some tick })
      (λ last is. let e : tick ≡ last = same_Some tick last is in let le : (interval_at intervals place).start ≤ tick = later tick refl in omega arith) kept.forward;
  starts = λ a. set_starts intervals place (record { start = (interval_at intervals place).start; end = Some tick }) refl a ∙ kept.starts a;
}

ends_kept : (spans : List Span) (references : List (List ℕ × Bool)) (told intervals : List Interval) (order : List ℕ) → KeepStarts told intervals → KeepStarts told (fold (with_callers_end spans references) intervals order)
ends_kept spans references told intervals [] kept = kept
ends_kept spans references told intervals (place ∷ order) kept =
    ends_kept spans references told (with_callers_end spans references intervals place) order
    (end_kept told intervals place (end_of_caller spans references intervals place) (λ tick is. caller_forward spans intervals place (caller_named references place) tick is) kept)

ended_kept : (b : Bool) (spans : List Span) (order : List ℕ) (told : List Interval) → Each IsForward told → KeepStarts told (cond b told (with_callers_ends spans (all_references spans) order told))
ended_kept true spans order told forward = record { count = refl; forward = forward; starts = λ place. refl }
ended_kept false spans order told forward = ends_kept spans (all_references spans) told told order (record { count = refl; forward = forward; starts = λ place. refl })

-- ---- how spans stand to each other

pub record IsFamily (as_told : AsTold) (spans : List Span) (relations : PlainRelations) : Type 0 where
  pub few : length spans ≤ most_spans
  pub count : length relations.intervals ≡ length spans
  pub forward : (place end : ℕ) → (interval_at relations.intervals place).end ≡ Some end → (interval_at relations.intervals place).start ≤ end
  pub by_start : AreByStart relations.intervals relations.order
  pub references : relations.references ≡ all_references spans
  pub parents : relations.parents ≡ parents_of spans relations.intervals
  pub hosts : relations.hosts ≡ hosts_of relations.intervals relations.parents
  pub waiting : relations.waiting ≡ waiting_parents spans relations.intervals relations.references relations.parents
  pub attempts : relations.attempts ≡ tried_of as_told spans relations.intervals relations.order relations.hosts relations.waiting
  pub given_up : relations.given_up ≡ given_up_of as_told spans relations.order (called_of spans relations.intervals relations.parents relations.waiting relations.attempts)

forward_at : (intervals : List Interval) (place : ℕ) → Each IsForward intervals → IsForward (interval_at intervals place)
forward_at [] place all = λ end is. absurd (none-some end is)
forward_at (interval ∷ intervals) zero all = all.0
forward_at (interval ∷ intervals) (suc place) all = forward_at intervals place all.1

pub family_is : (unit : TickUnit) (as_told : AsTold) (spans : List Span) (relations : PlainRelations) → AreRelationsOf unit as_told spans relations → length spans ≤ most_spans → IsFamily as_told spans relations
family_is unit as_told spans relations (origin, told, order, ticks, by_start, same) few =
    let times = told_times as_told spans in
    let first = then_ok (earliest_time spans times) _ (origin, told) ticks in
    let second = then_ok (intervals_of unit first.0 spans times) _ (origin, told) first.2 in
    let is_told : second.0 ≡ told = ap (λ pair. pair.1) (same_Ok (first.0, second.0) (origin, told) second.2) in
    let are = intervals_forward unit first.0 _ (zip spans times) second.0 second.1 in
    let count : length told ≡ length spans = sym (ap length is_told) ∙ are.0 ∙ zipped_count _ 0 spans in
    let kept : KeepStarts told (ended as_told spans order told) = ended_kept as_told.clocks spans order told (subst (Each IsForward) is_told are.1) in
    let made : IsFamily as_told spans (relations_with as_told spans origin (ended as_told spans order told) order) = record {
      few = few;
      count = kept.count ∙ count;
      forward = λ place. forward_at (ended as_told spans order told) place kept.forward;
      by_start = (by_start.0, (subst (λ starts. IsPermutation starts by_start.0) (sym (kept.starts 0)) by_start.1.0, by_start.1.1), by_start.2);
      references = refl;
      parents = refl;
      hosts = refl;
      waiting = refl;
      attempts = refl;
      given_up = refl;
    } in
    subst (IsFamily as_told spans) (sym same) made

-- ---- moments as numbers

pub turn_three : (t : Turn) → turn_number t < 3
turn_three turn.Ends = omega arith
turn_three turn.Starts = omega arith
turn_three turn.EndsAtOnce = omega arith

before_number : (t s u v : ℕ) → u < 3 → v < 3 → (nat_lt t s || (t == s && nat_lt u v)) ≡ true → t * 3 + u < s * 3 + v
before_number t s u v below others is = elim (split t s u v is) [ inl lt ↦ omega arith | inr same ↦ omega (arith, same.0, same.1) ]
  where
    split : (t s u v : ℕ) → (nat_lt t s || (t == s && nat_lt u v)) ≡ true → (t < s) ⊎ ((t ≡ s) × (u < v))
    split t s u v is = grind (arith, nat_tests)

pub not_before_number : (t s u v : ℕ) → u < 3 → v < 3 → (nat_lt t s || (t == s && nat_lt u v)) ≡ false → s * 3 + v ≤ t * 3 + u
not_before_number t s u v below others is = elim (split t s u v is) [ inl lt ↦ omega arith | inr same ↦ omega (arith, same.0, same.1) ]
  where
    split : (t s u v : ℕ) → (nat_lt t s || (t == s && nat_lt u v)) ≡ false → (s < t) ⊎ ((t ≡ s) × (v ≤ u))
    split t s u v is = grind (arith, nat_tests)

pub is_before_number : (moment other : Moment) → is_before moment other ≡ true → number moment < number other
is_before_number moment other is = before_number moment.tick other.tick (turn_number moment.turn) (turn_number other.turn) (turn_three moment.turn) (turn_three other.turn) is

past : (end : Option Moment) (moment : Moment) → is_past end moment ≡ true → (last : Moment) × (end ≡ Some last) × (number last < number moment)
past None moment is = absurd (false≢true is)
past (Some end) moment is = (end, refl, is_before_number end moment is)

-- a span that ended before another starts
pub ended_number : (intervals : List Interval) (place other : ℕ) → ended_before (interval_at intervals place) (start_moment (interval_at intervals other)) ≡ true
    → (last : Moment) × (end_moment (interval_at intervals place) ≡ Some last) × (number last < start_number intervals other)
ended_number intervals place other is = past (end_moment (interval_at intervals place)) (start_moment (interval_at intervals other)) is

pub not_true : (b : Bool) → not b ≡ true → b ≡ false
not_true true is = absurd (false≢true is)
not_true false is = refl

pub within_number : (child parent : Option Moment) (last end : Moment) → is_within child parent ≡ true → child ≡ Some last → parent ≡ Some end → number last ≤ number end
within_number None parent last end is first second = absurd (none-some last first)
within_number (Some child) None last end is first second = absurd (none-some end second)
within_number (Some child) (Some parent) last end is first second =
    let e : child ≡ last = same_Some child last first in
    let f : parent ≡ end = same_Some parent end second in
    let le : number child ≤ number parent = not_before_number parent.tick child.tick (turn_number parent.turn) (turn_number child.turn) (turn_three parent.turn) (turn_three child.turn) (not_true (is_before parent child) is) in
    subst (λ m. number last ≤ number m) f (subst (λ m. number m ≤ number parent) e le)

-- an end is at another turn than a start, and after the start of its span
end_turns : (b : Bool) → (turn_number (cond b turn.Ends turn.EndsAtOnce) ≡ 0) ⊎ (turn_number (cond b turn.Ends turn.EndsAtOnce) ≡ 2)
end_turns true = inl refl
end_turns false = inr refl

pub end_turn_at : (interval : Interval) (last : Moment) → end_moment interval ≡ Some last → (turn_number last.turn ≡ 0) ⊎ (turn_number last.turn ≡ 2)
end_turn_at interval last is = at interval.end is
  where
    at : (end : Option ℕ) → option_map (end_after interval.start) end ≡ Some last → (turn_number last.turn ≡ 0) ⊎ (turn_number last.turn ≡ 2)
    at None is = absurd (none-some last is)
    at (Some tick) is = subst (λ m. (turn_number m.turn ≡ 0) ⊎ (turn_number m.turn ≡ 2)) (same_Some (end_after interval.start tick) last is) (end_turns (nat_lt interval.start tick))

end_later : (start tick : ℕ) (b : Bool) → nat_lt start tick ≡ b → start ≤ tick → start * 3 + 1 < tick * 3 + turn_number (cond b turn.Ends turn.EndsAtOnce)
end_later start tick true is le = let lt : start < tick = grind (arith, nat_tests) in omega arith
end_later start tick false is le = omega arith

pub start_before_end : (interval : Interval) (last : Moment) → ((end : ℕ) → interval.end ≡ Some end → interval.start ≤ end) → end_moment interval ≡ Some last → interval.start * 3 + 1 < number last
start_before_end interval last forward is = at interval.end forward is
  where
    at : (end : Option ℕ) → ((tick : ℕ) → end ≡ Some tick → interval.start ≤ tick) → option_map (end_after interval.start) end ≡ Some last → interval.start * 3 + 1 < number last
    at None forward is = absurd (none-some last is)
    at (Some tick) forward is = subst (λ m. interval.start * 3 + 1 < number m) (same_Some (end_after interval.start tick) last is) (end_later interval.start tick (nat_lt interval.start tick) refl (forward tick refl))

-- only a span of the trace ends
pub ended_place : (intervals : List Interval) (place : ℕ) (last : Moment) → end_moment (interval_at intervals place) ≡ Some last → place < length intervals
ended_place [] place last is = absurd (none-some last is)
ended_place (interval ∷ intervals) zero last is = omega arith
ended_place (interval ∷ intervals) (suc place) last is = let lt : place < length intervals = ended_place intervals place last is in omega arith

sooner_start : (s t u : ℕ) → (u ≡ 0) ⊎ (u ≡ 2) → s * 3 + 1 ≤ t * 3 + u → s * 3 + 1 < t * 3 + u
sooner_start s t u (inl none) le = omega arith
sooner_start s t u (inr two) le = omega arith

-- a span that had not ended before another started ended after that
pub not_past_number : (intervals : List Interval) (place other : ℕ) (end : Moment) → ended_before (interval_at intervals place) (start_moment (interval_at intervals other)) ≡ false
    → end_moment (interval_at intervals place) ≡ Some end → start_number intervals other < number end
not_past_number intervals place other end past ends =
    sooner_start (interval_at intervals other).start end.tick (turn_number end.turn) (end_turn_at (interval_at intervals place) end ends)
    (not_before_number end.tick (interval_at intervals other).start (turn_number end.turn) 1 (turn_three end.turn) (omega arith) (sym (ap (λ found. is_past found (start_moment (interval_at intervals other))) ends) ∙ past))

-- ---- hosts, and what spans wait for

pub record IsHosted (intervals : List Interval) (parents : List (Option ℕ)) (place host : ℕ) : Type 0 where
  pub above : In (line parents most_spans (parent_at parents place)) host
  pub sooner : (interval_at intervals host).start ≤ (interval_at intervals place).start

hosted : (intervals : List Interval) (parents : List (Option ℕ)) (place host : ℕ) → host_of intervals parents place ≡ Some host → IsHosted intervals parents place host
hosted intervals parents place host is =
    let found = found_in (λ other. nat_le (start_at intervals other) (start_at intervals place)) (ancestors parents place) host is in
    record { above = found.0; sooner = nat_le_true (start_at intervals host) (start_at intervals place) found.1 }
  where
    nat_le_true : (a b : ℕ) → nat_le a b ≡ true → a ≤ b
    nat_le_true a b is = grind (arith, nat_tests)

-- the host stands among the ancestors, after others that start later
pub record HasHost (intervals : List Interval) (parents : List (Option ℕ)) (place host : ℕ) : Type 0 where
  pub before : List ℕ
  pub after : List ℕ
  pub split : ancestors parents place ≡ before ++ host ∷ after
  pub later : Each (λ other. start_at intervals place < start_at intervals other) before

host_found : (intervals : List Interval) (parents : List (Option ℕ)) (place host : ℕ) → host_of intervals parents place ≡ Some host → HasHost intervals parents place host
host_found intervals parents place host is =
    let found = found_split (λ other. nat_le (start_at intervals other) (start_at intervals place)) (ancestors parents place) host is in
    record {
      before = found.before;
      after = found.after;
      split = found.split;
      later = each-weaker (λ other. nat_le (start_at intervals other) (start_at intervals place) ≡ false) (λ other. start_at intervals place < start_at intervals other) (λ other. leb-false (start_at intervals other) (start_at intervals place)) found.before found.fail;
    }

inside_or_after : (b : Bool) (intervals : List Interval) (place host other : ℕ) → cond b (After other) (Inside other) ≡ Inside host → other ≡ host
inside_or_after true intervals place host other is = absurd (cc)
inside_or_after false intervals place host other is = cc

after_or_inside : (b : Bool) (host other : ℕ) → cond b (After other) (Inside other) ≡ After host → (b ≡ true) × (other ≡ host)
after_or_inside true host other is = (refl, cc)
after_or_inside false host other is = absurd (cc)

inside_host : (intervals : List Interval) (place host : ℕ) (found : Option ℕ) → host_at intervals place found ≡ Inside host → found ≡ Some host
inside_host intervals place host None is = absurd (cc)
inside_host intervals place host (Some other) is = ap Some (inside_or_after (ended_before (interval_at intervals other) (start_moment (interval_at intervals place))) intervals place host other is)

inside_open : (b : Bool) (host other : ℕ) → cond b (After other) (Inside other) ≡ Inside host → b ≡ false
inside_open true host other is = absurd (cc)
inside_open false host other is = refl

still_open : (intervals : List Interval) (place host : ℕ) (found : Option ℕ) → host_at intervals place found ≡ Inside host → ended_before (interval_at intervals host) (start_moment (interval_at intervals place)) ≡ false
still_open intervals place host None is = absurd (cc)
still_open intervals place host (Some other) is =
    subst (λ h. ended_before (interval_at intervals h) (start_moment (interval_at intervals place)) ≡ false)
    (inside_or_after (ended_before (interval_at intervals other) (start_moment (interval_at intervals place))) intervals place host other is)
    (inside_open (ended_before (interval_at intervals other) (start_moment (interval_at intervals place))) host other is)

after_host : (intervals : List Interval) (place host : ℕ) (found : Option ℕ) → host_at intervals place found ≡ After host
    → (found ≡ Some host) × (ended_before (interval_at intervals host) (start_moment (interval_at intervals place)) ≡ true)
after_host intervals place host None is = absurd (cc)
after_host intervals place host (Some other) is =
    let both = after_or_inside (ended_before (interval_at intervals other) (start_moment (interval_at intervals place))) host other is in
    (ap Some both.1, subst (λ h. ended_before (interval_at intervals h) (start_moment (interval_at intervals place)) ≡ true) both.1 both.0)

module _ {as_told : AsTold} (spans : List Span) (relations : PlainRelations) (is : IsFamily as_told spans relations) where
  abbrev pub Parents : List (Option ℕ)
  Parents = parents_of spans relations.intervals

  same_hosts : relations.hosts ≡ hosts_of relations.intervals Parents
  same_hosts = is.hosts ∙ ap (hosts_of relations.intervals) is.parents

  pub inside_is : (place host : ℕ) → slice_get relations.hosts place ≡ Some (Inside host) → IsHosted relations.intervals Parents place host
  inside_is place host here =
      let at = mapped_at (λ p. host_at relations.intervals p (host_of relations.intervals Parents p)) (length Parents) place (Inside host) (sym (ap (λ hosts. slice_get hosts place) same_hosts) ∙ here) in
      hosted relations.intervals Parents place host (inside_host relations.intervals place host (host_of relations.intervals Parents place) at.1)

  inside_at : (place host : ℕ) → slice_get relations.hosts place ≡ Some (Inside host) → host_at relations.intervals place (host_of relations.intervals Parents place) ≡ Inside host
  inside_at place host here =
      (mapped_at (λ p. host_at relations.intervals p (host_of relations.intervals Parents p)) (length Parents) place (Inside host) (sym (ap (λ hosts. slice_get hosts place) same_hosts) ∙ here)).1

  pub inside_host_is : (place host : ℕ) → slice_get relations.hosts place ≡ Some (Inside host) → HasHost relations.intervals Parents place host
  inside_host_is place host here = host_found relations.intervals Parents place host (inside_host relations.intervals place host (host_of relations.intervals Parents place) (inside_at place host here))

  -- a span that starts inside another starts before that ends
  pub inside_before_end : (place host : ℕ) (end : Moment) → slice_get relations.hosts place ≡ Some (Inside host) → end_moment (interval_at relations.intervals host) ≡ Some end → start_number relations.intervals place < number end
  inside_before_end place host end here ends =
      not_past_number relations.intervals host place end (still_open relations.intervals place host (host_of relations.intervals Parents place) (inside_at place host here)) ends

  pub after_host_is : (place host : ℕ) → slice_get relations.hosts place ≡ Some (After host) → HasHost relations.intervals Parents place host
  after_host_is place host here =
      let at = mapped_at (λ p. host_at relations.intervals p (host_of relations.intervals Parents p)) (length Parents) place (After host) (sym (ap (λ hosts. slice_get hosts place) same_hosts) ∙ here) in
      host_found relations.intervals Parents place host (after_host relations.intervals place host (host_of relations.intervals Parents place) at.1).0

  pub after_is : (place host : ℕ) → slice_get relations.hosts place ≡ Some (After host) → ended_before (interval_at relations.intervals host) (start_moment (interval_at relations.intervals place)) ≡ true
  after_is place host here =
      let at = mapped_at (λ p. host_at relations.intervals p (host_of relations.intervals Parents p)) (length Parents) place (After host) (sym (ap (λ hosts. slice_get hosts place) same_hosts) ∙ here) in
      (after_host relations.intervals place host (host_of relations.intervals Parents place) at.1).1

  same_waiting : relations.waiting ≡ waiting_parents spans relations.intervals (all_references spans) Parents
  same_waiting = is.waiting ∙ ap (λ references. waiting_parents spans relations.intervals references relations.parents) is.references ∙ ap (waiting_parents spans relations.intervals (all_references spans)) is.parents

  if_waits : (place parent : ℕ) (found : Option ℕ) → option_and_then (if_waiting spans relations.intervals (all_references spans) place) found ≡ Some parent
      → (found ≡ Some parent) × (ends_within (interval_at relations.intervals place) (interval_at relations.intervals parent) ≡ true)
  if_waits place parent None waits = absurd (none-some parent waits)
  if_waits place parent (Some other) waits = by_test (is_named (all_references spans) place && not (takes_from_queue spans place other)) (ends_within (interval_at relations.intervals place) (interval_at relations.intervals other)) refl waits
    where
      by_test : (a b : Bool) → ends_within (interval_at relations.intervals place) (interval_at relations.intervals other) ≡ b → cond (a && b) (Some other) None ≡ Some parent
          → (Some other ≡ Some parent) × (ends_within (interval_at relations.intervals place) (interval_at relations.intervals parent) ≡ true)
      by_test true true ends waits = (waits, subst (λ p. ends_within (interval_at relations.intervals place) (interval_at relations.intervals p) ≡ true) (same_Some other parent waits) ends)
      by_test true false ends waits = absurd (none-some parent waits)
      by_test false b ends waits = absurd (none-some parent waits)

  pub record Waits (parent place : ℕ) : Type 0 where
    pub child : parent_at Parents place ≡ Some parent
    pub ends : ends_within (interval_at relations.intervals place) (interval_at relations.intervals parent) ≡ true

  pub waits_is : (place parent : ℕ) → slice_get relations.waiting place ≡ Some (Some parent) → Waits parent place
  waits_is place parent here =
      let at = mapped_at (waiting_parent spans relations.intervals (all_references spans) Parents) (length spans) place (Some parent) (sym (ap (λ waiting. slice_get waiting place) same_waiting) ∙ here) in
      let both = if_waits place parent (parent_at Parents place) at.1 in
      record { child = both.0; ends = both.1 }

  pub parent_below : (place parent : ℕ) → parent_at Parents place ≡ Some parent → parent < length spans
  parent_below place parent here = parents_within spans place parent (left_parent relations.intervals (map parent_meant (all_references spans)) place parent here).1

  pub above_below : (place other : ℕ) → In (line Parents most_spans (parent_at Parents place)) other → other < length spans
  above_below place other here =
      line_below relations.intervals (map parent_meant (all_references spans)) (length spans) most_spans (parents_within spans)
      (parent_at Parents place) (parent_below place) other here

  references_count : (a : ℕ) (rest : List Span) → length (references_from spans a rest) ≡ length rest
  references_count a [] = refl
  references_count a (span ∷ rest) = ap suc (references_count (a + 1) rest)

  mapped_count : {X Y : Type 0} (f : X → Y) (xs : List X) → length (map f xs) ≡ length xs
  mapped_count f [] = refl
  mapped_count f (x ∷ xs) = ap suc (mapped_count f xs)

  pub parents_count : length Parents ≡ length spans
  parents_count = length-map-range_with_len _ 0 (length (map parent_meant (all_references spans))) ∙ mapped_count parent_meant (all_references spans) ∙ references_count 0 spans

  -- what has a parent is a span of the trace
  pub child_below : (place parent : ℕ) → parent_at Parents place ≡ Some parent → place < length relations.intervals
  child_below place parent here =
      let at : slice_get Parents place ≡ Some (Some parent) = known_known (slice_get Parents place) parent here in
      let lt : place < length Parents = slice_get_within Parents place (Some parent) at in
      let count : length Parents ≡ length spans = parents_count in
      let same : length relations.intervals ≡ length spans = is.count in
      omega arith
