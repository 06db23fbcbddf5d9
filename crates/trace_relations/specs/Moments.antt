-- Moments: what comes before what at one tick.
use Rattle.std.specs.Prelude.{ℕ, ◌&&◌, ◌||◌, ◌==◌, List, Bool, false, nat_lt, if◌then◌else◌, Option, Some, None, option_map, slice_get, unwrap_or}
use Rattle.trace_relations.specs.declared.moment.Interval.{Interval}
use Rattle.trace_relations.specs.declared.moment.Moment.{Moment}
use Rattle.trace_relations.specs.declared.moment.Turn.{Turn}
use Rattle.trace_relations.specs.declared.moment.Turn.TheVariants.{Ends, Starts, EndsAtOnce}

-- at one tick, first what took time ends, then spans start, then what took no time ends
abbrev pub turn_number : Turn → ℕ
turn_number Ends = 0
turn_number Starts = 1
turn_number EndsAtOnce = 2

abbrev pub is_before : Moment → Moment → Bool
is_before moment other = nat_lt moment.tick other.tick || (moment.tick == other.tick && nat_lt (turn_number moment.turn) (turn_number other.turn))

abbrev pub start_moment : Interval → Moment
start_moment interval = record { tick = interval.start; turn = Starts }

abbrev pub end_after : ℕ → ℕ → Moment
end_after start tick = record { tick = tick; turn = if nat_lt start tick then Ends else EndsAtOnce }

-- none of an open span
abbrev pub end_moment : Interval → Option Moment
end_moment interval = option_map (end_after interval.start) interval.end

abbrev pub is_past : Option Moment → Moment → Bool
is_past None moment = false
is_past (Some end) moment = is_before end moment

abbrev pub ended_before : Interval → Moment → Bool
ended_before interval moment = is_past (end_moment interval) moment

-- the interval of the span at a place
abbrev pub interval_at : List Interval → ℕ → Interval
interval_at intervals place = unwrap_or (slice_get intervals place) (record { start = 0; end = None })
