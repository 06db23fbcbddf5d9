-- How the spans of a trace stand to each other.
use Rattle.std.specs.Prelude.{◌≡◌, ◌≤◌, ℕ, ℤ, pos, List, Bool, length, map, nat_lt, if◌then◌else◌, Option, None, Result, Ok, Err, slice_get}
use Rattle.trace_spans.specs.declared.span.Span.{Span}
use Rattle.trace_relations.specs.declared.as_told.AsTold.{AsTold}
use Rattle.trace_relations.specs.declared.fault.RelationsFault.{RelationsFault}
use Rattle.trace_relations.specs.declared.fault.RelationsFault.TheVariants.{TooManyStages}
use Rattle.trace_relations.specs.declared.hosts.Host.{Host}
use Rattle.trace_relations.specs.declared.moment.Interval.{Interval}
use Rattle.trace_relations.specs.declared.placing.Moved.{Moved}
use Rattle.trace_relations.specs.declared.relations.Relations.{Relations}
use Rattle.trace_relations.specs.declared.relations.Timed.{Timed}
use Rattle.trace_relations.specs.declared.times.Times.{Times}
use Rattle.trace_relations.specs.declared.unit.Unit.{Unit}
use Rattle.trace_relations.specs.Ancestry.{most_spans, without_circles}
use Rattle.trace_relations.specs.Attempts.{Attempts, CallsOf, attempts_of, caller_of, tried_once}
use Rattle.trace_relations.specs.ByStart.{AreByStart}
use Rattle.trace_relations.specs.GivenUp.{Called, all_given_up}
use Rattle.trace_relations.specs.Hosts.{hosts_of}
use Rattle.trace_relations.specs.KeptAttempts.{plain_attempts}
use Rattle.trace_relations.specs.LateEnds.{with_callers_ends}
use Rattle.trace_relations.specs.Moves.{all_moves, moved_clocks}
use Rattle.trace_relations.specs.Parents.{all_references}
use Rattle.trace_relations.specs.Reads.{IsFault}
use Rattle.trace_relations.specs.Ticks.{earliest_time, intervals_of, then_on}
use Rattle.trace_relations.specs.Times.{times_of}
use Rattle.trace_relations.specs.Waits.{waiting_parents}

-- by their places: by how much clocks are moved, the earliest time of the trace, the ticks of spans, what their references mean, their order by
-- starts, their parents, where they start, which parents wait for them, which calls were tried again, and which were given up
pub record PlainRelations : Type 0 where
  pub origin : ℤ
  pub intervals : List Interval
  pub references : List (List ℕ × Bool)
  pub order : List ℕ
  pub parents : List (Option ℕ)
  pub hosts : List Host
  pub waiting : List (Option ℕ)
  pub attempts : Attempts
  pub given_up : List (Option ℕ)

abbrev pub plain : Relations → PlainRelations
plain relations = record {
  origin = relations.origin;
  intervals = relations.intervals.items;
  references = relations.references.items;
  order = relations.order.items;
  parents = relations.parents.items;
  hosts = relations.hosts.items;
  waiting = relations.waiting.items;
  attempts = plain_attempts relations.attempts;
  given_up = relations.given_up.items;
}

-- the parent that is the first of what references mean
abbrev pub parent_meant : List ℕ × Bool → Option ℕ
parent_meant references = slice_get references.0 0

-- ---- times

-- by how much the clock of each span is moved
abbrev pub moves_of : AsTold → List Span → ℕ → ℤ
moves_of as_told spans = if as_told.clocks then (λ place. pos 0) else all_moves spans

-- the clocks that are moved, by the first spans that have them, and by how much
abbrev pub moved_of : AsTold → List Span → List Moved
moved_of as_told spans = moved_clocks spans (moves_of as_told spans)

abbrev pub told_times : AsTold → List Span → List Times
told_times as_told spans = times_of (moves_of as_told spans) spans

-- the earliest time of a trace, and the ticks of its spans as they are told by their clocks, or the first fault
abbrev pub ticks_of : Unit → AsTold → List Span → Result (ℤ × List Interval) RelationsFault
ticks_of unit as_told spans =
    then_on (earliest_time spans (told_times as_told spans)) (λ origin.
    then_on (intervals_of unit origin spans (told_times as_told spans)) (λ intervals. Ok (origin, intervals)))

abbrev pub ended : AsTold → List Span → List ℕ → List Interval → List Interval
ended as_told spans order intervals = if as_told.clocks then intervals else with_callers_ends spans (all_references spans) order intervals

-- ---- what spans are to each other

abbrev pub parents_of : List Span → List Interval → List (Option ℕ)
parents_of spans intervals = without_circles intervals (map parent_meant (all_references spans))

abbrev pub calls_of : List Span → List Interval → List Host → List (Option ℕ) → CallsOf
calls_of spans intervals hosts waiting = record { spans = spans; intervals = intervals; callers = caller_of hosts waiting }

abbrev pub tried_of : AsTold → List Span → List Interval → List ℕ → List Host → List (Option ℕ) → Attempts
tried_of as_told spans intervals order hosts waiting = if as_told.calls then tried_once else attempts_of (calls_of spans intervals hosts waiting) order

abbrev pub called_of : List Span → List Interval → List (Option ℕ) → List (Option ℕ) → Attempts → Called
called_of spans intervals parents waiting attempts = record {
  spans = spans;
  intervals = intervals;
  references = all_references spans;
  parents = parents;
  waiting = waiting;
  next = attempts.next;
}

abbrev pub given_up_of : AsTold → List Span → List ℕ → Called → List (Option ℕ)
given_up_of as_told spans order called = if as_told.calls then map (λ span. None) spans else all_given_up called order

abbrev pub with_calls : AsTold → List Span → ℤ → List Interval → List ℕ → List (Option ℕ) → List Host → List (Option ℕ) → Attempts → PlainRelations
with_calls as_told spans origin intervals order parents hosts waiting attempts = record {
  origin = origin;
  intervals = intervals;
  references = all_references spans;
  order = order;
  parents = parents;
  hosts = hosts;
  waiting = waiting;
  attempts = attempts;
  given_up = given_up_of as_told spans order (called_of spans intervals parents waiting attempts);
}

abbrev pub with_waiting : AsTold → List Span → ℤ → List Interval → List ℕ → List (Option ℕ) → List Host → List (Option ℕ) → PlainRelations
with_waiting as_told spans origin intervals order parents hosts waiting =
    with_calls as_told spans origin intervals order parents hosts waiting (tried_of as_told spans intervals order hosts waiting)

abbrev pub with_parents : AsTold → List Span → ℤ → List Interval → List ℕ → List (Option ℕ) → PlainRelations
with_parents as_told spans origin intervals order parents =
    with_waiting as_told spans origin intervals order parents (hosts_of intervals parents) (waiting_parents spans intervals (all_references spans) parents)

-- spans with these ticks, in the order of their starts
abbrev pub relations_with : AsTold → List Span → ℤ → List Interval → List ℕ → PlainRelations
relations_with as_told spans origin intervals order = with_parents as_told spans origin intervals order (parents_of spans intervals)

-- the spans of a trace stand so to each other, with ticks of a unit
abbrev pub AreRelationsOf : Unit → AsTold → List Span → PlainRelations → Type 0
AreRelationsOf unit as_told spans relations =
    (origin : ℤ) × (intervals : List Interval) × (order : List ℕ) × (ticks_of unit as_told spans ≡ Ok (origin, intervals)) × AreByStart intervals order
    × (relations ≡ relations_with as_told spans origin (ended as_told spans order intervals) order)

-- the times of a trace are these
pub record AreTimes (unit : Unit) (as_told : AsTold) (spans : List Span) (timed : Timed) : Type 0 where
  pub told : List Interval
  pub ticks : ticks_of unit as_told spans ≡ Ok (timed.origin, told)
  pub by_start : AreByStart told timed.order.items
  pub moved : timed.moved.items ≡ moved_of as_told spans
  pub ended_with : timed.intervals.items ≡ ended as_told spans timed.order.items told

abbrev pub IsTimed : Unit → AsTold → List Span → Result Timed RelationsFault → Type 0
IsTimed unit as_told spans (Ok timed) = AreTimes unit as_told spans timed
IsTimed unit as_told spans (Err fault) = IsFault fault (ticks_of unit as_told spans)

-- the fault in them, unless memory is out
abbrev pub fault_in : Unit → AsTold → List Span → Result (ℤ × List Interval) RelationsFault
fault_in unit as_told spans = if nat_lt most_spans (length spans) then Err TooManyStages else ticks_of unit as_told spans

abbrev pub AreRelations : Unit → AsTold → List Span → Result Relations RelationsFault → Type 0
AreRelations unit as_told spans (Ok relations) = (length spans ≤ most_spans) × AreRelationsOf unit as_told spans (plain relations) × (relations.moved.items ≡ moved_of as_told spans)
AreRelations unit as_told spans (Err fault) = IsFault fault (fault_in unit as_told spans)
