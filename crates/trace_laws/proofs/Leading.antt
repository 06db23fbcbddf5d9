-- Of the sources of a join only the first may be a join: the others are ends of spans, and there is at least one.
use Rattle.std.proofs.Common.{◌≡◌, ℕ, ◌<◌, ◌≤◌, inl, inr, List, [], ◌∷◌, ◌++◌, Bool, true, false, cond, length, map, Option, Some, None, refl, arith}
use Rattle.std.specs.Prelude.{◌⊎◌, ◌==◌, IfSome, filter, fold, is_some, nat_lt, slice_get}
use Rattle.std.specs.Option.{option_map}
use Rattle.std.proofs.lemmas.Bool.{ltb-false}
use Rattle.trace_relations.specs.Ancestry.{parent_at}
use Rattle.trace_relations.specs.Attempts.{Attempts}
use Rattle.trace_relations.specs.Moments.{interval_at}
use Rattle.trace_relations.specs.Relations.{PlainRelations}
use Rattle.trace_relations.specs.declared.hosts.Host.{Host}
use Rattle.trace_relations.specs.declared.hosts.Host.TheVariants.{Nowhere, Inside, After}
use Rattle.trace_stages.specs.Called.{call_end, called, called_by, ending, gave_up, is_open, starting}
use Rattle.trace_stages.specs.Events.{ending_in, ends_for, events_of, happening, starting_in, starts_in, with_happening}
use Rattle.trace_stages.specs.Held.{PlainHolding, looked, looked_at, opening, sources_of}
use Rattle.trace_stages.specs.Holdings.{held, held_until}
use Rattle.trace_stages.specs.Joins.{PlainGathering, finished_with, gathered, join_id, joined_of}
use Rattle.trace_stages.specs.Moments.{At}
use Rattle.trace_stages.specs.OwnWork.{with_work, worked}
use Rattle.trace_stages.specs.Walk.{after, answered, ended_by, walked, with_called}
use Rattle.trace_laws.proofs.Each.{Each, each-push}
use Rattle.trace_stages.specs.declared.walk.event.Event.{Event}
use Rattle.trace_stages.specs.declared.walk.event.Event.TheVariants.{Starts, Ends}
use Rattle.trace_stages.specs.declared.walk.joins.JoinsOf.{JoinsOf}
use Rattle.trace_stages.specs.declared.walk.joins.JoinsOf.TheVariants as joins_of
use Rattle.trace_stages.specs.declared.walk.stage_id.StageId.{StageId}
use Rattle.trace_stages.specs.declared.walk.stage_id.StageId.TheVariants.{Whole, Tried}
use Rattle.trace_laws.proofs.Types.{Called, Happening}

-- the end of a span, or what a call came to that was tried again
abbrev pub IsEnd : StageId → Type 0
IsEnd id = (place : ℕ) × ((id ≡ Whole place) ⊎ (id ≡ Tried place))

pub call_is_end : (attempts : Attempts) (call : ℕ) → IsEnd (call_end attempts call)
call_is_end attempts call = by_next (is_some (attempts.next call))
  where
    by_next : (b : Bool) → IsEnd (cond b (Tried call) (Whole call))
    by_next true = (call, inr refl)
    by_next false = (call, inl refl)

-- all but the first are such ends
abbrev pub Led : List StageId → Type 0
Led [] = Unit {0}
Led (first ∷ others) = Each IsEnd others

-- and there is another
abbrev pub IsLed : List StageId → Type 0
IsLed [] = ⊥
IsLed (first ∷ []) = ⊥
IsLed (first ∷ second ∷ others) = Each IsEnd (second ∷ others)

led_push : (together : List StageId) (source : StageId) → Led together → IsEnd source → Led (together ++ source ∷ [])
led_push [] source led end = tt
led_push (first ∷ others) source led end = each-push IsEnd others source led end

long_led : (together : List StageId) → Led together → 1 < length together → IsLed together
long_led [] led long = absurd (omega arith)
long_led (first ∷ []) led long = absurd (omega arith)
long_led (first ∷ second ∷ others) led long = led

not_few : (n : ℕ) → nat_lt n 1_024 ≡ false → 1 < n
not_few n is = let le : 1_024 ≤ n = ltb-false n 1_024 is in omega arith

pub record Gathered (gathering : PlainGathering) : Type 0 where
  pub joins : Each IsLed gathering.joins
  pub together : Led gathering.together

gathers_one : (of : JoinsOf) (gathering : PlainGathering) (source : StageId) (few : Bool) → nat_lt (length gathering.together) 1_024 ≡ few → Gathered gathering → IsEnd source
    → Gathered (cond few (record { joins = gathering.joins; together = gathering.together ++ source ∷ [] })
    (record { joins = gathering.joins ++ gathering.together ∷ []; together = join_id of (length gathering.joins) ∷ source ∷ [] }))
gathers_one of gathering source true is kept end = record { joins = kept.joins; together = led_push gathering.together source kept.together end }
gathers_one of gathering source false is kept end =
    record { joins = each-push IsLed gathering.joins gathering.together kept.joins (long_led gathering.together kept.together (not_few (length gathering.together) is)); together = (end, tt) }

gathers_all : (of : JoinsOf) (gathering : PlainGathering) (sources : List StageId) → Gathered gathering → Each IsEnd sources → Gathered (fold (gathered of) gathering sources)
gathers_all of gathering [] kept ends = kept
gathers_all of gathering (source ∷ sources) kept ends =
    gathers_all of (gathered of gathering source) sources (gathers_one of gathering source (nat_lt (length gathering.together) 1_024) refl kept ends.0) ends.1

finishes : (of : JoinsOf) (joins : List (List StageId)) (together : List StageId) → Each IsLed joins → Led together → Each IsLed (finished_with of joins together).joins
finishes of joins [] made led = made
finishes of joins (only ∷ []) made led = made
finishes of joins (first ∷ second ∷ others) made led = each-push IsLed joins (first ∷ second ∷ others) made led

pub joined_led : (of : JoinsOf) (joins : List (List StageId)) (sources : List StageId) → Each IsLed joins → Led sources → Each IsLed (joined_of of joins sources).joins
joined_led of joins [] made led = made
joined_led of joins (source ∷ sources) made led =
    let all = gathers_all of (record { joins = joins; together = source ∷ [] }) sources (record { joins = made; together = tt }) led in
    finishes of (fold (gathered of) (record { joins = joins; together = source ∷ [] }) sources).joins (fold (gathered of) (record { joins = joins; together = source ∷ [] }) sources).together all.joins all.together

pub all_ends : (places : List ℕ) → Each IsEnd (map Whole places)
all_ends [] = tt
all_ends (place ∷ places) = ((place, inl refl), all_ends places)

pub ends_led : (sources : List StageId) → Each IsEnd sources → Led sources
ends_led [] ends = tt
ends_led (first ∷ others) ends = ends.1

own_led : (used : Bool) (has : StageId) (ended : List StageId) → Each IsEnd ended → Led (cond used [] (has ∷ []) ++ ended)
own_led true has ended ends = ends_led ended ends
own_led false has ended ends = ends

-- ---- what happens in a span

abbrev EndsWell : Event → Type 0
EndsWell (Starts place tick) = Unit {0}
EndsWell (Ends place stage tick) = IsEnd stage

happens_well : (relations : PlainRelations) (at : At) → IfSome (happening relations at) (λ found. EndsWell found.event)
happens_well relations at = by_turn (at.0.1 == 1)
  where
    by_host : (host : Option Host) → IfSome (starts_in at.1.1 at.0.0 host) (λ found. EndsWell found.event)
    by_host None = tt
    by_host (Some Nowhere) = tt
    by_host (Some (Inside host)) = tt
    by_host (Some (After host)) = tt

    by_previous : (b : Bool) → IfSome (cond b None (starts_in at.1.1 at.0.0 (slice_get relations.hosts at.1.1))) (λ found. EndsWell found.event)
    by_previous true = tt
    by_previous false = by_host (slice_get relations.hosts at.1.1)

    by_parent : (parent : Option ℕ) → IfSome (option_map (ends_for relations (relations.attempts.first at.1.1) at.0.0) parent) (λ found. EndsWell found.event)
    by_parent None = tt
    by_parent (Some parent) = call_is_end relations.attempts (relations.attempts.first at.1.1)

    by_next : (b : Bool) → IfSome (cond b None (option_map (ends_for relations (relations.attempts.first at.1.1) at.0.0) (parent_at relations.waiting at.1.1))) (λ found. EndsWell found.event)
    by_next true = tt
    by_next false = by_parent (parent_at relations.waiting at.1.1)

    by_turn : (b : Bool) → IfSome (cond b (starting_in relations at.1.1 at.0.0) (ending_in relations at.1.1 at.0.0)) (λ found. EndsWell found.event)
    by_turn true = by_previous (is_some (relations.attempts.previous at.1.1))
    by_turn false = by_next (is_some (relations.attempts.next at.1.1))

with_well : (count span : ℕ) (events : List Event) (found : Option Happening) → Each EndsWell events → IfSome found (λ those. EndsWell those.event) → Each EndsWell (with_happening count span events found)
with_well count span events None all here = all
with_well count span events (Some found) all here = by_tests (nat_lt found.inside count) (span == found.inside)
  where
    by_tests : (b c : Bool) → Each EndsWell (cond b (cond c (events ++ found.event ∷ []) events) events)
    by_tests true true = each-push EndsWell events found.event all here
    by_tests true false = all
    by_tests false c = all

events_well : (count : ℕ) (relations : PlainRelations) (span : ℕ) (events : List Event) (moments : List At) → Each EndsWell events → Each EndsWell (fold (λ those at. with_happening count span those (happening relations at)) events moments)
events_well count relations span events [] all = all
events_well count relations span events (at ∷ moments) all =
    events_well count relations span (with_happening count span events (happening relations at)) moments (with_well count span events (happening relations at) all (happens_well relations at))

-- ---- what a span has

record AreLedIn (holding : PlainHolding) : Type 0 where
  pub joins : Each IsLed holding.joins
  pub ended : Each IsEnd holding.ended

looked_at_led : (span : ℕ) (holding : PlainHolding) (ended : List StageId) → AreLedIn holding → AreLedIn (looked_at span holding ended)
looked_at_led span holding [] led = led
looked_at_led span holding (stage ∷ stages) led =
    record { joins = joined_led (joins_of.Holding span) holding.joins (sources_of holding) led.joins (own_led holding.is_used holding.has holding.ended led.ended); ended = tt }

looked_led : (span : ℕ) (holding : PlainHolding) → AreLedIn holding → AreLedIn (looked span holding)
looked_led span holding led = looked_at_led span holding holding.ended led

worked_led : (span : ℕ) (holding : PlainHolding) (tick : ℕ) → AreLedIn holding → AreLedIn (worked span holding tick)
worked_led span holding tick led = by_test (nat_lt holding.reached tick)
  where
    by_test : (b : Bool) → AreLedIn (cond b (with_work span holding tick) holding)
    by_test true = record { joins = led.joins; ended = led.ended }
    by_test false = led

after_led : (span : ℕ) (holding : PlainHolding) (event : Event) → EndsWell event → AreLedIn holding → AreLedIn (after span holding event)
after_led span holding (Starts place tick) well led =
    let now = worked_led span (looked span holding) tick (looked_led span holding led) in
    record { joins = now.joins; ended = now.ended }
after_led span holding (Ends place stage tick) well led = record { joins = led.joins; ended = each-push IsEnd holding.ended stage led.ended well }

walked_led : (span : ℕ) (holding : PlainHolding) (events : List Event) → Each EndsWell events → AreLedIn holding → AreLedIn (fold (after span) holding events)
walked_led span holding [] well led = led
walked_led span holding (event ∷ events) well led = walked_led span (after span holding event) events well.1 (after_led span holding event well.0 led)

called_led : (holding : PlainHolding) (calls : List Called) → Each (λ call. IsEnd call.stage) calls → AreLedIn holding → AreLedIn (with_called holding calls)
called_led holding [] ends led = led
called_led holding (call ∷ calls) ends led =
    called_led (ended_by call.span call.stage 0 holding) calls ends.1 (record { joins = led.joins; ended = each-push IsEnd holding.ended call.stage led.ended ends.0 })

answered_led : (span : ℕ) (holding : PlainHolding) (calls : List Called) → Each (λ call. IsEnd call.stage) calls → AreLedIn holding → Each IsLed (answered span calls holding).joins
answered_led span holding [] ends led = led.joins
answered_led span holding (first ∷ others) ends led = (looked_led span (with_called holding (first ∷ others)) (called_led holding (first ∷ others) ends led)).joins

calls_end : (relations : PlainRelations) (places : List ℕ) → Each (λ call. IsEnd call.stage) (map (called_by relations) places)
calls_end relations [] = tt
calls_end relations (place ∷ places) = (call_is_end relations.attempts place, calls_end relations places)

pub held_led : (relations : PlainRelations) (moments : List At) (span : ℕ) → Each IsLed (held relations moments span).joins
held_led relations moments span =
    by_end (interval_at relations.intervals span).end
    (walked_led span (opening span (interval_at relations.intervals span).start) (events_of (length relations.intervals) relations moments span) (events_well (length relations.intervals) relations span [] moments tt) (record { joins = tt; ended = tt }))
  where
    by_end : (end : Option ℕ) → AreLedIn (walked span (interval_at relations.intervals span).start (events_of (length relations.intervals) relations moments span))
        → Each IsLed (held_until end span (called relations moments span) (walked span (interval_at relations.intervals span).start (events_of (length relations.intervals) relations moments span))).joins
    by_end None led = led.joins
    by_end (Some end) led =
        answered_led span (looked span (walked span (interval_at relations.intervals span).start (events_of (length relations.intervals) relations moments span))) (called relations moments span)
        (calls_end relations (filter (gave_up relations span) (ending moments ++ filter (is_open relations) (starting moments))))
        (looked_led span (walked span (interval_at relations.intervals span).start (events_of (length relations.intervals) relations moments span)) led)
