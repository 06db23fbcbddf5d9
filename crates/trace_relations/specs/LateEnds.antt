-- T. Ends that are a little late: what outlives its caller by a tenth of its own length at most has ended with it.
use Rattle.std.specs.Prelude.{ℕ, ◌-◌, ◌/◌, ◌&&◌, List, Bool, false, not, nat_le, nat_lt, if◌then◌else◌, Option, Some, None, option_and_then, slice_get, slice_set, fold}
use Rattle.trace_spans.specs.declared.span.Span.{Span}
use Rattle.trace_relations.specs.declared.moment.Interval.{Interval}
use Rattle.trace_relations.specs.Calls.{is_message}
use Rattle.trace_relations.specs.Moments.{interval_at}
use Rattle.trace_relations.specs.Waits.{caller_named}

abbrev pub late_with : ℕ → Option ℕ → ℕ → Option ℕ → Bool
late_with start (Some end) callers_start (Some callers_end) =
    nat_le callers_start start && (nat_le start callers_end && (nat_lt callers_end end && nat_le (end - callers_end) ((end - start) / 10)))
late_with start end callers_start callers_end = false

-- it starts inside its caller and outlives that, by at most a tenth of its own length
abbrev pub is_a_little_late : Interval → Interval → Bool
is_a_little_late interval caller = late_with interval.start interval.end caller.start caller.end

abbrev pub if_late : Option Span → Option Span → Interval → Interval → Option ℕ
if_late (Some span) (Some calling) interval caller = if not calling.failed && (not (is_message calling span) && is_a_little_late interval caller) then caller.end else None
if_late span calling interval caller = None

-- the end of the caller, which did not fail and sent no message, if the span is a little late
abbrev pub end_of_caller : List Span → List (List ℕ × Bool) → List Interval → ℕ → Option ℕ
end_of_caller spans references intervals place =
    option_and_then (λ caller. if_late (slice_get spans place) (slice_get spans caller) (interval_at intervals place) (interval_at intervals caller)) (caller_named references place)

abbrev pub ended_with : List Interval → ℕ → Option ℕ → List Interval
ended_with intervals place None = intervals
ended_with intervals place (Some end) = slice_set intervals place (record { start = (interval_at intervals place).start; end = Some end })

abbrev pub with_callers_end : List Span → List (List ℕ × Bool) → List Interval → ℕ → List Interval
with_callers_end spans references intervals place = ended_with intervals place (end_of_caller spans references intervals place)

-- in the order of starts, so that a caller's own end is known first
abbrev pub with_callers_ends : List Span → List (List ℕ × Bool) → List ℕ → List Interval → List Interval
with_callers_ends spans references order intervals = fold (with_callers_end spans references) intervals order
