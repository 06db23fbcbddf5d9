-- What happens inside spans, and how much.
use Rattle.std.proofs.Common.{◌≡◌, ℕ, zero, suc, ◌+◌, ◌*◌, ◌<◌, ◌≤◌, List, [], ◌∷◌, ◌++◌, Bool, true, false, cond, length, fold, map, Option, Some, None, is_some, refl, sym, ap, ◌∙◌, inl, inr, subst, arith}
use Rattle.std.specs.Prelude.{◌⊎◌, ◌||◌, filter, nat_eq, nat_lt, not, option_map, slice_get}
use Rattle.std.specs.List.{AllByRecursion as Each, list_any, sum_by}
use Rattle.std.specs.Option.{option_eq}
use Rattle.std.proofs.lemmas.Bool.{true≢false}
use Rattle.std.proofs.lemmas.Bool.Decides.{nat_tests}
use Rattle.std.proofs.lemmas.List.{length-append, length-map}
use Rattle.std.proofs.lemmas.List.Elements.{All-from_recursion, recursion_from_All}
use Rattle.std.proofs.lemmas.List.Sorted.{All-permutation, length_permutation, sum_by-IsPermutation}
use Rattle.std.proofs.lemmas.List.Sums.{count_by-le-length, length-filter, sum_by-append, sum_by-cons}
use Rattle.std.proofs.lemmas.Option.{none-some, same_Some, slice_get_within}
use Rattle.trace_relations.specs.Ancestry.{known, parent_at}
use Rattle.trace_relations.specs.Moments.{end_after, end_moment, interval_at, turn_number}
use Rattle.trace_relations.specs.Relations.{PlainRelations}
use Rattle.trace_relations.specs.Ticks.{last_tick}
use Rattle.trace_relations.specs.declared.hosts.Host.{Host}
use Rattle.trace_relations.specs.declared.hosts.Host.TheVariants.{Nowhere, Inside, After}
use Rattle.trace_relations.specs.declared.moment.Interval.{Interval}
use Rattle.trace_relations.specs.declared.moment.Moment.{Moment}
use Rattle.trace_relations.specs.declared.moment.Turn.TheVariants.{Ends as EndsTurn, EndsAtOnce}
use Rattle.trace_stages.specs.Called.{call_end, called, called_by, ending, gave_up, is_open, starting}
use Rattle.trace_stages.specs.Events.{ending_in, ends_for, events_of, happening, starting_in, starts_in, with_happening}
use Rattle.trace_stages.specs.Held.{PlainHolding, looked, opening}
use Rattle.trace_stages.specs.Holdings.{held, held_until}
use Rattle.trace_stages.specs.Moments.{AreMoments, At, all_moments, end_of, moments_from, moments_of}
use Rattle.trace_stages.specs.TwoStages.{has_two, hosts, waits}
use Rattle.trace_stages.specs.Walk.{answered, walked}
use Rattle.trace_laws.proofs.Joined.{each_push}
use Rattle.trace_stages.specs.declared.walk.event.Event.{Event}
use Rattle.trace_stages.specs.declared.walk.event.Event.TheVariants.{Starts, Ends}
use Rattle.trace_stages.specs.declared.walk.holding.Begin.{Begin}
use Rattle.trace_stages.specs.declared.walk.stage_id.StageId.TheVariants.{Tried, Whole}
use Rattle.trace_laws.proofs.Members.{IsIn, each_in, each_of, in_either, in_filter, in_map}
use Rattle.trace_laws.proofs.Timed.{IsTimed, timed_at}
use Rattle.trace_laws.proofs.Types.{Called, Happening}
use Rattle.trace_laws.proofs.Walked.{IsCall, IsEnd, IsEvent, IsWalked, among, answered_few, answered_walked, is_end, is_start, looked_makes, looked_walked, walk_makes, walked_walked}

-- ---- moments

-- a moment is of one of so many spans, and a start is no later than the last tick
pub record IsMoment (count : ℕ) (at : At) : Type 0 where
  pub below : at.1.1 < count
  pub start : nat_eq at.0.1 1 ≡ true → at.0.0 ≤ last_tick

end_turn : (b : Bool) → nat_eq (turn_number (cond b EndsTurn EndsAtOnce)) 1 ≡ false
end_turn true = refl
end_turn false = refl

end_is : (start tick : ℕ) → nat_eq (turn_number (end_after start tick).turn) 1 ≡ false
end_is start tick = end_turn (nat_lt start tick)

each_append : {X : Type 0} (P : X → Type 0) (xs ys : List X) → Each P xs → Each P ys → Each P (xs ++ ys)
each_append P [] ys h k = k
each_append P (x ∷ xs) ys h k = (h.0, each_append P xs ys h.1 k)

each_weaker : {X : Type 0} (P : X → Type 0) (Q : X → Type 0) → ((x : X) → P x → Q x) → (xs : List X) → Each P xs → Each Q xs
each_weaker P Q f [] h = tt
each_weaker P Q f (x ∷ xs) h = (f x h.0, each_weaker P Q f xs h.1)

ends_moments : (count place start : ℕ) (end : Option ℕ) → place < count → Each (IsMoment count) (end_of (option_map (end_after start) end) start place)
ends_moments count place start None low = tt
ends_moments count place start (Some tick) low = (record { below = low; start = λ e. absurd (true≢false (sym e ∙ end_is start tick)) }, tt)

these_moments : (count place : ℕ) (interval : Interval) → place < count → interval.start ≤ last_tick → Each (IsMoment count) (moments_of place interval)
these_moments count place interval low start = (record { below = low; start = λ e. start }, ends_moments count place interval.start interval.end low)

from_moments : (count place : ℕ) (intervals : List Interval) → place + length intervals ≤ count → Each IsTimed intervals → Each (IsMoment count) (moments_from place intervals)
from_moments count place [] few timed = tt
from_moments count place (interval ∷ intervals) few timed =
    let here = timed.0 in
    each_append (IsMoment count) (moments_of place interval) (moments_from (place + 1) intervals) (these_moments count place interval (omega arith) here.start) (from_moments count (place + 1) intervals (omega arith) timed.1)

pub are_moments : (intervals : List Interval) (moments : List At) → AreMoments intervals moments → Each IsTimed intervals → Each (IsMoment (length intervals)) moments
are_moments intervals moments are timed =
    recursion_from_All (IsMoment (length intervals)) moments
    (All-permutation (IsMoment (length intervals)) (all_moments intervals) moments are.0
    (All-from_recursion (IsMoment (length intervals)) (all_moments intervals) (from_moments (length intervals) 0 intervals (omega arith) timed)))

end_few : (o : Option Moment) (start place : ℕ) → length (end_of o start place) ≤ 1
end_few None start place = omega arith
end_few (Some end) start place = omega arith

moments_few : (place : ℕ) (intervals : List Interval) → length (moments_from place intervals) ≤ 2 * length intervals
moments_few place [] = omega arith
moments_few place (interval ∷ intervals) =
    omega (arith, length-append (moments_of place interval) (moments_from (place + 1) intervals), end_few (end_moment interval) interval.start place, moments_few (place + 1) intervals)

pub all_few : (intervals : List Interval) (moments : List At) → AreMoments intervals moments → length moments ≤ 2 * length intervals
all_few intervals moments are = omega (arith, length_permutation (all_moments intervals) moments are.0, moments_few 0 intervals)

-- ---- what happens

-- what happens inside a span: another starts whose host it is, or a call ends that it waits for
abbrev pub HappensIn : PlainRelations → ℕ → Event → Type 0
HappensIn relations span (Starts place tick) = (slice_get relations.hosts place ≡ Some (Inside span)) × (tick ≤ last_tick)
HappensIn relations span (Ends place stage tick) = (last : ℕ) × (slice_get relations.waiting last ≡ Some (Some span)) × (stage ≡ call_end relations.attempts (relations.attempts.first last))

known_some : (o : Option (Option ℕ)) (parent : ℕ) → known o ≡ Some parent → o ≡ Some (Some parent)
known_some None parent is = absurd (none-some parent is)
known_some (Some p) parent is = ap Some is

module _ (count : ℕ) (relations : PlainRelations) where
  -- with one happening more
  added : (span inside : ℕ) (events : List Event) (event : Event) → HappensIn relations inside event → Each (HappensIn relations span) events
      → Each (HappensIn relations span) (cond (nat_lt inside count) (cond (nat_eq span inside) (events ++ event ∷ []) events) events)
  added span inside events event happen all = by (nat_lt inside count) (nat_eq span inside) refl
    where
      by : (b same : Bool) → nat_eq span inside ≡ same → Each (HappensIn relations span) (cond b (cond same (events ++ event ∷ []) events) events)
      by true true e =
          let is : inside ≡ span = grind (arith, nat_tests) in
          each_push (HappensIn relations span) events event all (subst (λ (s : ℕ). HappensIn relations s event) is happen)
      by true false e = all
      by false same e = all

  one_starts : (span place tick : ℕ) (events : List Event) (o : Option Host) → slice_get relations.hosts place ≡ o → tick ≤ last_tick → Each (HappensIn relations span) events → Each (HappensIn relations span) (with_happening count span events (starts_in place tick o))
  one_starts span place tick events None e low all = all
  one_starts span place tick events (Some Nowhere) e low all = all
  one_starts span place tick events (Some (Inside host)) e low all = added span host events (Starts place tick) (e, low) all
  one_starts span place tick events (Some (After host)) e low all = all

  one_ends : (span place tick : ℕ) (events : List Event) (o : Option ℕ) → parent_at relations.waiting place ≡ o → Each (HappensIn relations span) events
      → Each (HappensIn relations span) (with_happening count span events (option_map (ends_for relations (relations.attempts.first place) tick) o))
  one_ends span place tick events None e all = all
  one_ends span place tick events (Some parent) e all =
      added span parent events (Ends (relations.attempts.first place) (call_end relations.attempts (relations.attempts.first place)) tick) (place, known_some (slice_get relations.waiting place) parent e, refl) all

  one_happens : (span : ℕ) (events : List Event) (at : At) → IsMoment count at → Each (HappensIn relations span) events → Each (HappensIn relations span) (with_happening count span events (happening relations at))
  one_happens span events at is all = by (nat_eq at.0.1 1) refl
    where
      starts : (b : Bool) → at.0.0 ≤ last_tick → Each (HappensIn relations span) (with_happening count span events (cond b None (starts_in at.1.1 at.0.0 (slice_get relations.hosts at.1.1))))
      starts true low = all
      starts false low = one_starts span at.1.1 at.0.0 events (slice_get relations.hosts at.1.1) refl low all

      ends : (b : Bool) → Each (HappensIn relations span) (with_happening count span events (cond b None (option_map (ends_for relations (relations.attempts.first at.1.1) at.0.0) (parent_at relations.waiting at.1.1))))
      ends true = all
      ends false = one_ends span at.1.1 at.0.0 events (parent_at relations.waiting at.1.1) refl all

      by : (b : Bool) → nat_eq at.0.1 1 ≡ b → Each (HappensIn relations span) (with_happening count span events (cond b (starting_in relations at.1.1 at.0.0) (ending_in relations at.1.1 at.0.0)))
      by true e = starts (is_some (relations.attempts.previous at.1.1)) (is.start e)
      by false e = ends (is_some (relations.attempts.next at.1.1))

  all_happen : (span : ℕ) (moments : List At) (events : List Event) → Each (IsMoment count) moments → Each (HappensIn relations span) events
      → Each (HappensIn relations span) (fold (λ those at. with_happening count span those (happening relations at)) events moments)
  all_happen span [] events are all = all
  all_happen span (at ∷ moments) events are all =
      all_happen span moments (with_happening count span events (happening relations at)) are.1 (one_happens span events at are.0 all)

  pub events_happen : (span : ℕ) (moments : List At) → Each (IsMoment count) moments → Each (HappensIn relations span) (events_of count relations moments span)
  events_happen span moments are = all_happen span moments [] are tt

  -- ---- how much happens

  module _ (weight : Event → ℕ) (heavy : At → ℕ) (bounds : (at : At) (found : Happening) → happening relations at ≡ Some found → weight found.event ≤ heavy at) where
    among_more : (events : List Event) (event : Event) → among weight (events ++ event ∷ []) ≡ among weight events + weight event
    among_more [] event = omega arith
    among_more (x ∷ xs) event = omega (arith, among_more xs event)

    added_few : (span inside : ℕ) (events : List Event) (event : Event) → among weight (cond (nat_lt inside count) (cond (nat_eq span inside) (events ++ event ∷ []) events) events) ≤ among weight events + weight event
    added_few span inside events event = by (nat_lt inside count) (nat_eq span inside)
      where
        by : (b same : Bool) → among weight (cond b (cond same (events ++ event ∷ []) events) events) ≤ among weight events + weight event
        by true true = omega (arith, among_more events event)
        by true false = omega arith
        by false same = omega arith

    one_few : (span : ℕ) (events : List Event) (at : At) (o : Option Happening) → happening relations at ≡ o → among weight (with_happening count span events o) ≤ among weight events + heavy at
    one_few span events at None e = omega arith
    one_few span events at (Some found) e = omega (arith, added_few span found.inside events found.event, bounds at found e)

    moments_among : (span : ℕ) (moments : List At) (events : List Event) → among weight (fold (λ those at. with_happening count span those (happening relations at)) events moments) ≤ among weight events + sum_by heavy moments
    moments_among span [] events = omega arith
    moments_among span (at ∷ moments) events =
        let one = one_few span events at (happening relations at) refl in
        let rest = moments_among span moments (with_happening count span events (happening relations at)) in
        omega (arith, one, rest, sum_by-cons heavy at moments)

    among_few : (span : ℕ) (moments : List At) → among weight (events_of count relations moments span) ≤ sum_by heavy moments
    among_few span moments = omega (arith, moments_among span moments [])

  -- ---- ends

  abbrev end_heavy : At → ℕ
  end_heavy at = cond (nat_eq at.0.1 1) 0 1

  abbrev start_heavy : At → ℕ
  start_heavy at = cond (nat_eq at.0.1 1) 1 0

  started_is : (place tick : ℕ) (o : Option Host) (found : Happening) → starts_in place tick o ≡ Some found → is_end found.event ≡ 0
  started_is place tick None found e = absurd (none-some found e)
  started_is place tick (Some Nowhere) found e = absurd (none-some found e)
  started_is place tick (Some (Inside host)) found e = ap (λ (h : Happening). is_end h.event) (sym (same_Some _ found e))
  started_is place tick (Some (After host)) found e = absurd (none-some found e)

  ended_is : (place tick : ℕ) (o : Option ℕ) (found : Happening) → option_map (ends_for relations place tick) o ≡ Some found → is_start found.event ≡ 0
  ended_is place tick None found e = absurd (none-some found e)
  ended_is place tick (Some parent) found e = ap (λ (h : Happening). is_start h.event) (sym (same_Some _ found e))

  one_end : (event : Event) → is_end event ≤ 1
  one_end (Starts place tick) = omega arith
  one_end (Ends place stage tick) = omega arith

  one_start : (event : Event) → is_start event ≤ 1
  one_start (Starts place tick) = omega arith
  one_start (Ends place stage tick) = omega arith

  unless : {X : Type 0} (b : Bool) (o : Option X) (x : X) → cond b None o ≡ Some x → o ≡ Some x
  unless true o x e = absurd (none-some x e)
  unless false o x e = e

  ends_bound : (at : At) (found : Happening) → happening relations at ≡ Some found → is_end found.event ≤ end_heavy at
  ends_bound at found e = by (nat_eq at.0.1 1) e
    where
      by : (b : Bool) → cond b (starting_in relations at.1.1 at.0.0) (ending_in relations at.1.1 at.0.0) ≡ Some found → is_end found.event ≤ cond b 0 1
      by true is =
          let none = started_is at.1.1 at.0.0 (slice_get relations.hosts at.1.1) found (unless (is_some (relations.attempts.previous at.1.1)) (starts_in at.1.1 at.0.0 (slice_get relations.hosts at.1.1)) found is) in
          omega (arith, none)
      by false is = one_end found.event

  starts_bound : (at : At) (found : Happening) → happening relations at ≡ Some found → is_start found.event ≤ start_heavy at
  starts_bound at found e = by (nat_eq at.0.1 1) e
    where
      by : (b : Bool) → cond b (starting_in relations at.1.1 at.0.0) (ending_in relations at.1.1 at.0.0) ≡ Some found → is_start found.event ≤ cond b 1 0
      by true is = one_start found.event
      by false is =
          let none = ended_is (relations.attempts.first at.1.1) at.0.0 (parent_at relations.waiting at.1.1) found
          (unless (is_some (relations.attempts.next at.1.1)) (option_map (ends_for relations (relations.attempts.first at.1.1) at.0.0) (parent_at relations.waiting at.1.1)) found is) in
          omega (arith, none)

  single : (heavy : At → ℕ) → ((at : At) → heavy at ≤ 1) → (o : Option Moment) (start place : ℕ) → sum_by heavy (end_of o start place) ≤ 1
  single heavy low None start place = omega arith
  single heavy low (Some end) start place = omega (arith, sum_by-cons heavy ((end.tick, turn_number end.turn), (start, place)) [], low ((end.tick, turn_number end.turn), (start, place)))

  zero_or_one : (b : Bool) → cond b 0 1 ≤ 1
  zero_or_one true = omega arith
  zero_or_one false = omega arith

  ends_weigh : (place : ℕ) (intervals : List Interval) → sum_by end_heavy (moments_from place intervals) ≤ length intervals
  ends_weigh place [] = omega arith
  ends_weigh place (interval ∷ intervals) =
      let start : At = ((interval.start, 1), (interval.start, place)) in
      let ends = end_of (end_moment interval) interval.start place in
      let none : end_heavy start ≡ 0 = refl in
      omega (
        arith,
        sum_by-append end_heavy (start ∷ ends) (moments_from (place + 1) intervals),
        sum_by-cons end_heavy start ends,
        none,
        single end_heavy (λ at. zero_or_one (nat_eq at.0.1 1)) (end_moment interval) interval.start place,
        ends_weigh (place + 1) intervals,
      )

  no_start : (start place : ℕ) (end : Option ℕ) → sum_by start_heavy (end_of (option_map (end_after start) end) start place) ≤ 0
  no_start start place None = omega arith
  no_start start place (Some tick) =
      let at : At = ((tick, turn_number (end_after start tick).turn), (start, place)) in
      let none : start_heavy at ≡ 0 = ap (λ b. cond b 1 0) (end_is start tick) in
      omega (arith, sum_by-cons start_heavy at [], none)

  starts_weigh : (place : ℕ) (intervals : List Interval) → sum_by start_heavy (moments_from place intervals) ≤ length intervals
  starts_weigh place [] = omega arith
  starts_weigh place (interval ∷ intervals) =
      let start : At = ((interval.start, 1), (interval.start, place)) in
      let ends = end_of (end_moment interval) interval.start place in
      let one : start_heavy start ≡ 1 = refl in
      omega (
        arith,
        sum_by-append start_heavy (start ∷ ends) (moments_from (place + 1) intervals),
        sum_by-cons start_heavy start ends,
        one,
        no_start interval.start place interval.end,
        starts_weigh (place + 1) intervals,
      )

  pub ends_few : (intervals : List Interval) (moments : List At) (span : ℕ) → AreMoments intervals moments → among is_end (events_of count relations moments span) ≤ length intervals
  ends_few intervals moments span are = omega (arith, among_few is_end end_heavy ends_bound span moments, sum_by-IsPermutation end_heavy (all_moments intervals) moments are.0, ends_weigh 0 intervals)

  pub starts_few : (intervals : List Interval) (moments : List At) (span : ℕ) → AreMoments intervals moments → among is_start (events_of count relations moments span) ≤ length intervals
  starts_few intervals moments span are = omega (arith, among_few is_start start_heavy starts_bound span moments, sum_by-IsPermutation start_heavy (all_moments intervals) moments are.0, starts_weigh 0 intervals)

-- ---- which spans have two stages

any_at : {X : Type 0} (p : X → Bool) (xs : List X) (k : ℕ) (x : X) → slice_get xs k ≡ Some x → p x ≡ true → list_any p xs ≡ true
any_at p [] k x at is = absurd (none-some x at)
any_at p (y ∷ ys) zero x at is = ap (λ b. b || list_any p ys) (ap p (same_Some y x at) ∙ is)
any_at p (y ∷ ys) (suc k) x at is = ap (λ b. p y || b) (any_at p ys k x at is) ∙ or_true (p y)
  where
    or_true : (b : Bool) → (b || true) ≡ true
    or_true true = refl
    or_true false = refl

self_is : (q : ℕ) → nat_eq q q ≡ true
self_is q = grind (arith, nat_tests)

or_either : (a b : Bool) → (a ≡ true) ⊎ (b ≡ true) → (a || b) ≡ true
or_either true b h = refl
or_either false b h = elim h [ inl e ↦ absurd (true≢false (sym e)) | inr e ↦ e ]

pub two_hosting : (all_hosts : List Host) (waiting : List (Option ℕ)) (span place : ℕ) → slice_get all_hosts place ≡ Some (Inside span) → has_two all_hosts waiting span ≡ true
two_hosting all_hosts waiting span place h = or_either (list_any (hosts span) all_hosts) (list_any (waits span) waiting) (inl (any_at (hosts span) all_hosts place (Inside span) h (self_is span)))

pub two_waiting : (all_hosts : List Host) (waiting : List (Option ℕ)) (span place : ℕ) → slice_get waiting place ≡ Some (Some span) → has_two all_hosts waiting span ≡ true
two_waiting all_hosts waiting span place h = or_either (list_any (hosts span) all_hosts) (list_any (waits span) waiting) (inr (any_at (waits span) waiting place (Some span) h (self_is span)))

two_by : (relations : PlainRelations) (span : ℕ) (event : Event) → HappensIn relations span event → has_two relations.hosts relations.waiting span ≡ true
two_by relations span (Starts place tick) h = two_hosting relations.hosts relations.waiting span place h.0
two_by relations span (Ends place stage tick) h = two_waiting relations.hosts relations.waiting span h.0 h.1

some_equal : (o : Option ℕ) (p : ℕ) → option_eq nat_eq o (Some p) ≡ true → o ≡ Some p
some_equal None p h = absurd (true≢false (sym h))
some_equal (Some q) p h = let e : q ≡ p = grind (arith, nat_tests) in ap Some e

-- ---- what a span has

-- a call ends with one of so many spans
pub ends_call : (n : ℕ) (relations : PlainRelations) (place : ℕ) → place < n → IsEnd n relations.attempts.next (call_end relations.attempts place)
ends_call n relations place low = by (is_some (relations.attempts.next place)) refl
  where
    by : (b : Bool) → is_some (relations.attempts.next place) ≡ b → IsEnd n relations.attempts.next (cond b (Tried place) (Whole place))
    by true e = (low, e)
    by false e = low

-- calls are of so many spans
pub record HasCalls (n : ℕ) (relations : PlainRelations) : Type 0 where
  pub intervals : length relations.intervals ≡ n
  pub waiting : length relations.waiting ≡ n
  pub first : (place : ℕ) → place < n → relations.attempts.first place < n
  pub timed : Each IsTimed relations.intervals
  -- a span that gave a call up has two stages
  pub given : (child span : ℕ) → parent_at relations.given_up child ≡ Some span → has_two relations.hosts relations.waiting span ≡ true

module _ (n : ℕ) (relations : PlainRelations) (moments : List At) (calls : HasCalls n relations) (are : AreMoments relations.intervals moments) (span : ℕ) where
  abbrev events : List Event
  events = events_of (length relations.intervals) relations moments span

  abbrev the_calls : List Called
  the_calls = called relations moments span

  timed_moments : Each (IsMoment (length relations.intervals)) moments
  timed_moments = are_moments relations.intervals moments are calls.timed

  happen : Each (HappensIn relations span) events
  happen = events_happen (length relations.intervals) relations span moments timed_moments

  fits : (event : Event) → HappensIn relations span event → IsEvent n relations.attempts.next event
  fits (Starts place tick) h = h.1
  fits (Ends place stage tick) h =
      let low : h.0 < n = subst (λ (m : ℕ). h.0 < m) calls.waiting (slice_get_within relations.waiting h.0 (Some span) h.1) in
      subst (IsEnd n relations.attempts.next) (sym h.2) (ends_call n relations (relations.attempts.first h.0) (calls.first h.0 low))

  all_fit : Each (IsEvent n relations.attempts.next) events
  all_fit = each_weaker (HappensIn relations span) (IsEvent n relations.attempts.next) fits events happen

  -- ---- what was called

  at_moment : (p : At → Bool) (place : ℕ) → IsIn place (map (λ (at : At). at.1.1) (filter p moments)) → place < n
  at_moment p place h =
      let at = in_map (λ (at : At). at.1.1) (filter p moments) place h in
      let within = in_filter p moments at.0 at.1 in
      let is = each_in (IsMoment (length relations.intervals)) moments at.0 timed_moments within.0 in
      subst (λ (k : ℕ). k < n) (sym at.2) (subst (λ (m : ℕ). at.0.1.1 < m) calls.intervals is.below)

  abbrev candidates : List ℕ
  candidates = ending moments ++ filter (is_open relations) (starting moments)

  candidate_low : (place : ℕ) → IsIn place candidates → place < n
  candidate_low place h = elim (in_either place (ending moments) (filter (is_open relations) (starting moments)) h) [
    | inl l ↦ at_moment (λ at. not (nat_eq at.0.1 1)) place l
    | inr r ↦ (let found = in_filter (is_open relations) (starting moments) place r in at_moment (λ at. nat_eq at.0.1 1) place found.0)
  ]

  -- it was called by the span
  record IsCalled (call : Called) : Type 0 where
    place : ℕ
    low : place < n
    is : call ≡ called_by relations place
    given : parent_at relations.given_up place ≡ Some span

  is_called : (call : Called) → IsIn call the_calls → IsCalled call
  is_called call h =
      let of = in_map (called_by relations) (filter (gave_up relations span) candidates) call h in
      let found = in_filter (gave_up relations span) candidates of.0 of.1 in
      record { place = of.0; low = candidate_low of.0 found.0; is = of.2; given = some_equal (parent_at relations.given_up of.0) span found.1 }

  call_fits : (call : Called) → IsIn call the_calls → IsCall n relations.attempts.next call
  call_fits call h =
      let of = is_called call h in
      let timed = timed_at relations.intervals of.place calls.timed in
      subst (IsCall n relations.attempts.next) (sym of.is) (record { stage = ends_call n relations of.place of.low; start = timed.start })

  calls_fit : Each (IsCall n relations.attempts.next) the_calls
  calls_fit = each_of (IsCall n relations.attempts.next) the_calls call_fits

  filter_few : {X : Type 0} (p : X → Bool) (xs : List X) → length (filter p xs) ≤ length xs
  filter_few p xs = omega (arith, length-filter p xs, count_by-le-length p xs)

  calls_few : length the_calls ≤ 4 * n
  calls_few =
      let starts = filter (λ (at : At). nat_eq at.0.1 1) moments in
      let ends = filter (λ (at : At). not (nat_eq at.0.1 1)) moments in
      omega (
        arith,
        length-map (filter (gave_up relations span) candidates) (called_by relations),
        filter_few (gave_up relations span) candidates,
        length-append (ending moments) (filter (is_open relations) (starting moments)),
        filter_few (is_open relations) (starting moments),
        length-map starts (λ (at : At). at.1.1),
        length-map ends (λ (at : At). at.1.1),
        filter_few (λ (at : At). nat_eq at.0.1 1) moments,
        filter_few (λ (at : At). not (nat_eq at.0.1 1)) moments,
        all_few relations.intervals moments are,
        calls.intervals,
      )

  -- ---- its joins and its own work

  abbrev own_start : ℕ
  own_start = (interval_at relations.intervals span).start

  record AreFew (holding : PlainHolding) : Type 0 where
    joins : length holding.joins ≤ n + 258
    works : length holding.works ≤ n

  held_few : n ≤ 65536 → (end : Option ℕ) → AreFew (held_until end span the_calls (walked span own_start events))
  held_few few None =
      let walk = walk_makes span events (opening span own_start) in
      record {
        joins = omega (arith, walk.few, ends_few (length relations.intervals) relations relations.intervals moments span are, calls.intervals);
        works = omega (arith, walk.works, starts_few (length relations.intervals) relations relations.intervals moments span are, calls.intervals);
      }
  held_few few (Some end) =
      let walk = walk_makes span events (opening span own_start) in
      let look = looked_makes span (walked span own_start events) in
      let answers = answered_few span the_calls (looked span (walked span own_start events)) in
      record {
        joins = omega (arith, walk.few, look.few, answers.few, ends_few (length relations.intervals) relations relations.intervals moments span are, calls.intervals, calls_few);
        works = omega (arith, walk.works, look.works, answers.works, starts_few (length relations.intervals) relations relations.intervals moments span are, calls.intervals);
      }

  pub joins_few : n ≤ 65536 → length (held relations moments span).joins ≤ n + 258
  joins_few few = let both = held_few few (interval_at relations.intervals span).end in both.joins

  pub works_few : n ≤ 65536 → length (held relations moments span).works ≤ n
  works_few few = let both = held_few few (interval_at relations.intervals span).end in both.works

  abbrev IsWalkedTo : PlainHolding → Type 0
  IsWalkedTo holding = IsWalked span n relations.attempts.next (length holding.joins) (length holding.works) holding

  pub held_walked : IsWalkedTo (held relations moments span)
  held_walked = by (interval_at relations.intervals span).end
    where
      by : (end : Option ℕ) → IsWalkedTo (held_until end span the_calls (walked span own_start events))
      by None = walked_walked span n relations.attempts.next (length (walked span own_start events).joins) (length (walked span own_start events).works) own_start events all_fit (omega arith) (omega arith)
      by (Some end) =
          let most = length (answered span the_calls (looked span (walked span own_start events))).joins in
          let done = length (answered span the_calls (looked span (walked span own_start events))).works in
          let look = looked_makes span (walked span own_start events) in
          let answers = answered_few span the_calls (looked span (walked span own_start events)) in
          let walks = walked_walked span n relations.attempts.next most done own_start events all_fit (omega (arith, look.grows, answers.grows)) (omega (arith, look.adds, answers.works)) in
          answered_walked span n relations.attempts.next most done the_calls (looked span (walked span own_start events))
          (looked_walked span n relations.attempts.next most done (walked span own_start events) walks answers.grows) calls_fit (omega arith)

  -- ---- a span in which something happens, or that gave calls up, has two stages

  first_happens : (all : List Event) → events ≡ all → (all ≡ [] → ⊥) → has_two relations.hosts relations.waiting span ≡ true
  first_happens [] e some = absurd (some refl)
  first_happens (event ∷ rest) e some =
      let all = subst (λ (l : List Event). Each (HappensIn relations span) l) e happen in
      two_by relations span event all.0

  first_called : (all : List Called) → the_calls ≡ all → (all ≡ [] → ⊥) → has_two relations.hosts relations.waiting span ≡ true
  first_called [] e some = absurd (some refl)
  first_called (call ∷ rest) e some =
      let of = is_called call (subst (λ (l : List Called). IsIn call l) (sym e) (inl refl)) in
      calls.given of.place span of.given

  -- what began from what it has
  pub begun_two : (begin : Begin) → IsIn begin (held relations moments span).begins → has_two relations.hosts relations.waiting span ≡ true
  begun_two begin h = by (interval_at relations.intervals span).end events refl the_calls refl h
    where
      by : (end : Option ℕ) (all : List Event) → events ≡ all → (those : List Called) → the_calls ≡ those → IsIn begin (held_until end span those (walked span own_start all)).begins → has_two relations.hosts relations.waiting span ≡ true
      by end (event ∷ rest) e those f within = first_happens (event ∷ rest) e (λ none. cc)
      by end [] e (call ∷ rest) f within = first_called (call ∷ rest) f (λ none. cc)
      by None [] e [] f within = absurd within
      by (Some end) [] e [] f within = absurd within

  answer_two : (end : Option ℕ) (those : List Called) → the_calls ≡ those → is_some (held_until end span those (walked span own_start events)).answer ≡ true → has_two relations.hosts relations.waiting span ≡ true
  answer_two None those f is =
      let walk = walk_makes span events (opening span own_start) in
      absurd (true≢false (sym is ∙ ap is_some walk.same_answer))
  answer_two (Some end) [] f is =
      let walk = walk_makes span events (opening span own_start) in
      let look = looked_makes span (walked span own_start events) in
      absurd (true≢false (sym is ∙ ap is_some (look.same_answer ∙ walk.same_answer)))
  answer_two (Some end) (call ∷ rest) f is = first_called (call ∷ rest) f (λ none. cc)

  pub gave_two : is_some (held relations moments span).answer ≡ true → has_two relations.hosts relations.waiting span ≡ true
  gave_two is = answer_two (interval_at relations.intervals span).end the_calls refl is
