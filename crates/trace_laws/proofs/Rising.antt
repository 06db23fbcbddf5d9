-- What happens inside a span, in the order of moments.
use Rattle.std.proofs.Common.{◌≡◌, ℕ, suc, ◌+◌, ◌*◌, ◌<◌, ◌≤◌, inl, inr, List, [], ◌∷◌, ◌++◌, Bool, true, false, cond, Option, Some, None, refl, sym, ap, ◌∙◌, subst, arith}
use Rattle.std.specs.Prelude.{◌⊎◌, All, IsPermutation, IsSorted, fold, is_some, nat_eq, nat_lt, slice_get, slice_index_or, unwrap_or}
use Rattle.std.specs.Option.{option_map}
use Rattle.std.proofs.lemmas.Bool.{cases_lt, eq-eqb, eqb-true, false≢true}
use Rattle.trace_relations.specs.declared.moment.Turn.TheVariants as turn
use Rattle.std.specs.List.{AllByRecursion}
use Rattle.std.specs.List.Sorted.{IsNonDecreasingBy, IsSortedByKey}
use Rattle.std.specs.Ordering.{is_lt, nat_cmp, ordering_then}
use Rattle.std.specs.declared.cmp.Ordering.{Ordering}
use Rattle.std.specs.declared.cmp.Ordering.TheVariants.{Less, Equal}
use Rattle.std.proofs.lemmas.Bool.Decides.{nat_tests}
use Rattle.std.proofs.lemmas.List.Elements.{All-from_recursion, recursion_from_All}
use Rattle.std.proofs.lemmas.List.Sorted.{All-permutation, IsNonDecreasingBy-from_sort}
use Rattle.std.proofs.lemmas.List.Sums.{fold-append}
use Rattle.trace_stages.specs.Called.{call_end}
use Rattle.trace_stages.specs.Events.{ending_in, ends_for, events_of, happening, starting_in, starts_in, with_happening}
use Rattle.trace_stages.specs.Moments.{AreMoments, At, all_moments, at_cmp, end_of, moments_from, moments_of}
use Rattle.trace_relations.specs.Ancestry.{parent_at}
use Rattle.trace_relations.specs.ByStart.{pair_cmp}
use Rattle.trace_relations.specs.Moments.{end_after, end_moment, interval_at, turn_number}
use Rattle.trace_relations.specs.Relations.{PlainRelations}
use Rattle.trace_relations.specs.declared.hosts.Host.{Host}
use Rattle.trace_relations.specs.declared.hosts.Host.TheVariants.{Nowhere, Inside, After}
use Rattle.trace_relations.specs.declared.moment.Interval.{Interval}
use Rattle.trace_relations.specs.declared.moment.Moment.{Moment}
use Rattle.trace_stages.specs.Held.{PlainHolding, opening}
use Rattle.trace_stages.specs.Walk.{after, walked}
use Rattle.trace_stages.specs.declared.walk.event.Event.{Event}
use Rattle.trace_stages.specs.declared.walk.event.Event.TheVariants.{Starts, Ends}
use Rattle.trace_stages.specs.declared.walk.stage_id.StageId.{StageId}
use Rattle.trace_laws.proofs.Each.{Each, each-append}
use Rattle.trace_laws.proofs.Numbers.{number, start_number}
use Rattle.trace_laws.proofs.Relations.{known_known, turn_three}
use Rattle.trace_laws.proofs.Walking.{HappensAt, Has, after_has, later_has, opening_has}

abbrev number_at : At → ℕ
number_at at = at.0.0 * 3 + at.0.1

-- a start or an end of the span that it names
abbrev IsReal : List Interval → At → Type 0
IsReal intervals at =
    ((at.0.1 ≡ 1) × (number_at at ≡ start_number intervals at.1.1))
    ⊎ ((at.0.1 ≡ 1 → ⊥) × (at.0.1 < 3) × ((moment : Moment) × (end_moment (interval_at intervals at.1.1) ≡ Some moment) × (number moment ≡ number_at at)))

end_turn : (b : Bool) → (turn_number (cond b turn.Ends turn.EndsAtOnce) ≡ 1 → ⊥) × (turn_number (cond b turn.Ends turn.EndsAtOnce) < 3)
end_turn true = (λ e. omega arith, omega arith)
end_turn false = (λ e. omega arith, omega arith)

real_end : (intervals : List Interval) (place : ℕ) (interval : Interval) (end : Option ℕ) → interval_at intervals place ≡ interval → interval.end ≡ end
    → Each (IsReal intervals) (end_of (option_map (end_after interval.start) end) interval.start place)
real_end intervals place interval None is none = tt
real_end intervals place interval (Some tick) is some =
    (inr ((end_turn (nat_lt interval.start tick)).0, (end_turn (nat_lt interval.start tick)).1, (end_after interval.start tick, ap end_moment is ∙ ap (option_map (end_after interval.start)) some, refl)), tt)

real_from : (intervals : List Interval) (place : ℕ) (rest : List Interval) → ((k : ℕ) (interval : Interval) → slice_get rest k ≡ Some interval → interval_at intervals (place + k) ≡ interval)
    → Each (IsReal intervals) (moments_from place rest)
real_from intervals place [] each = tt
real_from intervals place (interval ∷ rest) each =
    let here : interval_at intervals place ≡ interval = let e : place + 0 ≡ place = omega arith in subst (λ p. interval_at intervals p ≡ interval) e (each 0 interval refl) in
    each-append (IsReal intervals) (moments_of place interval) (moments_from (place + 1) rest)
    (inl (refl, ap (λ i. i.start * 3 + 1) (sym here)), real_end intervals place interval interval.end here refl)
    (real_from intervals (place + 1) rest (λ k other at. let e : place + suc k ≡ (place + 1) + k = omega arith in subst (λ p. interval_at intervals p ≡ other) e (each (suc k) other at)))

to_recursion : {X : Type 0} (P : X → Type 0) (xs : List X) → Each P xs → AllByRecursion P xs
to_recursion P [] all = tt
to_recursion P (x ∷ xs) all = (all.0, to_recursion P xs all.1)

from_recursion : {X : Type 0} (P : X → Type 0) (xs : List X) → AllByRecursion P xs → Each P xs
from_recursion P [] all = tt
from_recursion P (x ∷ xs) all = (all.0, from_recursion P xs all.1)

all_real : (intervals : List Interval) (moments : List At) → IsPermutation (all_moments intervals) moments → All (IsReal intervals) moments
all_real intervals moments moved =
    All-permutation (IsReal intervals) (all_moments intervals) moments moved
    (All-from_recursion (IsReal intervals) (all_moments intervals) (to_recursion (IsReal intervals) (all_moments intervals)
    (real_from intervals 0 intervals (λ k interval here. let e : k ≡ 0 + k = omega arith in subst (λ p. interval_at intervals p ≡ interval) e (ap (λ found. unwrap_or found (record { start = 0; end = None })) here)))))

turn_below : (intervals : List Interval) (at : At) → IsReal intervals at → at.0.1 < 3
turn_below intervals at (inl (turn, start)) = omega arith
turn_below intervals at (inr (turn, below, end)) = below

-- ---- moments don't fall

less : (a b : ℕ) → a < b → nat_cmp a b ≡ Less
less a b lt = grind (arith, nat_tests)

equal : (a b : ℕ) → a ≡ b → nat_cmp a b ≡ Equal
equal a b e = grind (arith, nat_tests)

not_less : (a b : ℕ) → b ≤ a → is_lt (nat_cmp a b) ≡ false
not_less a b le = grind (arith, nat_tests)

true-false : true ≡ false → ⊥
true-false e = false≢true (sym e)

in_order : (t u s v : ℕ) (rest : Ordering) → u < 3 → v < 3 → is_lt (ordering_then (ordering_then (nat_cmp t s) (nat_cmp u v)) rest) ≡ false → s * 3 + v ≤ t * 3 + u
in_order t u s v rest below others sorted = elim (cases_lt t s) [
  | inl lt ↦ absurd (true-false (sym (ap (λ o. is_lt (ordering_then (ordering_then o (nat_cmp u v)) rest)) (less t s lt)) ∙ sorted))
  | inr le ↦ elim (cases_lt s t) [
    | inl gt ↦ omega arith
    | inr same ↦
        let e : t ≡ s = omega arith in
        elim (cases_lt u v) [
          | inl lt ↦ absurd (true-false (sym (ap (λ o. is_lt (ordering_then (ordering_then o (nat_cmp u v)) rest)) (equal t s e) ∙ ap (λ o. is_lt (ordering_then (ordering_then Equal o) rest)) (less u v lt)) ∙ sorted))
          | inr ge ↦ omega arith
        ]
  ]
]

sorted_numbers : (intervals : List Interval) (moments : List At) → All (IsReal intervals) moments → IsSorted at_cmp moments → IsSortedByKey number_at nat_cmp moments
sorted_numbers intervals moments real sorted = λ k d zero_le short.
    let first : At = slice_index_or moments k d in
    let second : At = slice_index_or moments (k + 1) d in
    not_less (number_at second) (number_at first)
    (in_order second.0.0 second.0.1 first.0.0 first.0.1 (pair_cmp second.1 first.1)
    (turn_below intervals second (real (k + 1) d short)) (turn_below intervals first (real k d (omega arith))) (sorted k d zero_le short))

-- the first comes no sooner than a number
FromThen : ℕ → List At → Type 0
FromThen now [] = Unit {0}
FromThen now (at ∷ moments) = now ≤ number_at at

from_next : (at : At) (moments : List At) → IsNonDecreasingBy number_at (at ∷ moments) → FromThen (number_at at) moments
unfolding FromThen
from_next at [] rising = tt
from_next at (next ∷ moments) rising = rising 0 1 at (omega arith) (omega arith)

from_zero : (moments : List At) → FromThen 0 moments
unfolding FromThen
from_zero [] = tt
from_zero (at ∷ moments) = omega arith

-- a call that a span waits for had ended by a number, and by a tick, with its last attempt
pub record EndedCall (relations : PlainRelations) (span now reached : ℕ) (id : StageId) : Type 0 where
  pub child : ℕ
  pub end : Moment
  pub ends : end_moment (interval_at relations.intervals child) ≡ Some end
  pub by : number end ≤ now
  pub reaches : end.tick ≤ reached
  pub waits : slice_get relations.waiting child ≡ Some (Some span)
  pub last : relations.attempts.next child ≡ None
  pub is : id ≡ call_end relations.attempts (relations.attempts.first child)

pub ended_later : (relations : PlainRelations) (span now further reached more : ℕ) → now ≤ further → reached ≤ more → (id : StageId) → EndedCall relations span now reached id → EndedCall relations span further more id
ended_later relations span now further reached more le up id ended = record {
  child = ended.child;
  end = ended.end;
  ends = ended.ends;
  by = let by : number ended.end ≤ now = ended.by in omega arith;
  reaches = let reaches : ended.end.tick ≤ reached = ended.reaches in omega arith;
  waits = ended.waits;
  last = ended.last;
  is = ended.is;
}

none_of : (found : Option ℕ) → is_some found ≡ false → found ≡ None
none_of None none = refl
none_of (Some x) none = absurd (false≢true (sym none))

same_tick : (t u s v : ℕ) → u < 3 → v < 3 → t * 3 + u ≡ s * 3 + v → t ≤ s
same_tick t u s v below others same = omega arith

module _ (span : ℕ) (relations : PlainRelations) (count : ℕ) where
  abbrev pub Within : ℕ → Type 0
  Within place = slice_get relations.hosts place ≡ Some (Inside span)

  abbrev pub Now : ℕ → PlainHolding → Type 0
  Now now holding = Has span (EndedCall relations span) (start_number relations.intervals) Within (ended_later relations span) now holding

  abbrev Happens : ℕ → Event → Type 0
  Happens now event = HappensAt span (EndedCall relations span) (start_number relations.intervals) Within (ended_later relations span) now event

  go_on : (now further : ℕ) (holding : PlainHolding) → now ≤ further → Now now holding → Now further holding
  go_on now further holding le here = later_has span (EndedCall relations span) (start_number relations.intervals) Within (ended_later relations span) now further holding le here

  module _ (start : ℕ) (since : start_number relations.intervals span ≤ start * 3 + 1) where
    one_more : (now : ℕ) (events : List Event) (event : Event) → Happens now event → Now now (walked span start events) → Now now (walked span start (events ++ event ∷ []))
    one_more now events event at here =
        subst (Now now) (sym (fold-append (after span) (opening span start) events (event ∷ [])))
        (after_has span (EndedCall relations span) (start_number relations.intervals) Within (ended_later relations span) now (walked span start events) event at here)

    one_if : (now host : ℕ) (events : List Event) (event : Event) (b c : Bool) → nat_eq span host ≡ c → (span ≡ host → Happens now event) → Now now (walked span start events)
        → Now now (walked span start (cond b (cond c (events ++ event ∷ []) events) events))
    one_if now host events event false c is at here = here
    one_if now host events event true false is at here = here
    one_if now host events event true true is at here = one_more now events event (at (eqb-true span host is)) here

    started : (now place tick : ℕ) (events : List Event) (b : Bool) (host : Option Host) → slice_get relations.hosts place ≡ host → now ≡ start_number relations.intervals place → now ≡ tick * 3 + 1 → Now now (walked span start events)
        → Now now (walked span start (with_happening count span events (cond b None (starts_in place tick host))))
    started now place tick events true host is at same here = here
    started now place tick events false None is at same here = here
    started now place tick events false (Some Nowhere) is at same here = here
    started now place tick events false (Some (After host)) is at same here = here
    started now place tick events false (Some (Inside host)) is at same here =
        one_if now host events (Starts place tick) (nat_lt host count) (nat_eq span host) refl (λ those. (at, same, is ∙ ap (λ h. Some (Inside h)) (sym those))) here

    finished : (now place tick : ℕ) (events : List Event) (moment : Moment) (b : Bool) (parent : Option ℕ) → is_some (relations.attempts.next place) ≡ b → parent_at relations.waiting place ≡ parent
        → end_moment (interval_at relations.intervals place) ≡ Some moment → number moment ≤ now → moment.tick ≤ tick → Now now (walked span start events)
        → Now now (walked span start (with_happening count span events (cond b None (option_map (ends_for relations (relations.attempts.first place) tick) parent))))
    finished now place tick events moment true parent last is ends le up here = here
    finished now place tick events moment false None last is ends le up here = here
    finished now place tick events moment false (Some parent) last is ends le up here =
        one_if now parent events (Ends (relations.attempts.first place) (call_end relations.attempts (relations.attempts.first place)) tick) (nat_lt parent count) (nat_eq span parent) refl
        (λ same. record {
          child = place;
          end = moment;
          ends = ends;
          by = le;
          reaches = up;
          waits = known_known (slice_get relations.waiting place) span (is ∙ ap Some (sym same));
          last = none_of (relations.attempts.next place) last;
          is = refl;
        }) here

    what_happens : (at : At) (events : List Event) (b : Bool) → nat_eq at.0.1 1 ≡ b → IsReal relations.intervals at → Now (number_at at) (walked span start events)
        → Now (number_at at) (walked span start (with_happening count span events (cond b (starting_in relations at.1.1 at.0.0) (ending_in relations at.1.1 at.0.0))))
    what_happens at events true is (inl (turn, first)) here =
        started (number_at at) at.1.1 at.0.0 events (is_some (relations.attempts.previous at.1.1)) (slice_get relations.hosts at.1.1) refl first (omega arith) here
    what_happens at events true is (inr (turn, below, end)) here = absurd (turn (eqb-true at.0.1 1 is))
    what_happens at events false is (inl (turn, first)) here = absurd (false≢true (sym is ∙ eq-eqb at.0.1 1 turn))
    what_happens at events false is (inr (turn, below, (moment, ends, same))) here =
        finished (number_at at) at.1.1 at.0.0 events moment (is_some (relations.attempts.next at.1.1)) (parent_at relations.waiting at.1.1) refl refl ends (omega arith)
        (same_tick moment.tick (turn_number moment.turn) at.0.0 at.0.1 (turn_three moment.turn) below same) here

    -- one more moment
    more_has : (now : ℕ) (events : List Event) (at : At) → now ≤ number_at at → IsReal relations.intervals at → Now now (walked span start events)
        → Now (number_at at) (walked span start (with_happening count span events (happening relations at)))
    more_has now events at le real here = what_happens at events (nat_eq at.0.1 1) refl real (go_on now (number_at at) (walked span start events) le here)

    all_has : (now : ℕ) (events : List Event) (moments : List At) → FromThen now moments → IsNonDecreasingBy number_at moments → Each (IsReal relations.intervals) moments → Now now (walked span start events)
        → (last : ℕ) × Now last (walked span start (fold (λ those at. with_happening count span those (happening relations at)) events moments))
    unfolding FromThen
    all_has now events [] bounds rising real here = (now, here)
    all_has now events (at ∷ moments) bounds rising real here =
        all_has (number_at at) (with_happening count span events (happening relations at)) moments (from_next at moments rising)
        (λ i j d le lt. rising (suc i) (suc j) d (omega arith) (omega arith)) real.1 (more_has now events at bounds real.0 here)

    -- what a span has when it has been walked through
    pub walked_has : (moments : List At) → AreMoments relations.intervals moments → (last : ℕ) × Now last (walked span start (events_of count relations moments span))
    walked_has moments are =
        let real : All (IsReal relations.intervals) moments = all_real relations.intervals moments are.0 in
        all_has 0 [] moments (from_zero moments) (IsNonDecreasingBy-from_sort number_at moments (sorted_numbers relations.intervals moments real are.1))
        (from_recursion (IsReal relations.intervals) moments (recursion_from_All (IsReal relations.intervals) moments real))
        (opening_has span (EndedCall relations span) (start_number relations.intervals) Within (ended_later relations span) 0 start since)
