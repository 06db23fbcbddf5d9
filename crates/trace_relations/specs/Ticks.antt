-- Ticks: how many whole units after the earliest time of the trace.
use Rattle.std.specs.Prelude.{ℕ, ℤ, pos, ◌/◌, ◌||◌, List, [], ◌∷◌, Bool, false, find, min, nat_lt, if◌then◌else◌, Option, Some, None, option_map, unwrap_or, Result, Ok, Err}
use Rattle.std.specs.Int.{int_gap, int_min}
use Rattle.std.specs.List.{zip}
use Rattle.std.specs.Option.{option_eq, option_map_or}
use Rattle.std.specs.Ordering.{int_eq}
use Rattle.trace_spans.specs.declared.span.Span.{Span}
use Rattle.trace_relations.specs.declared.fault.RelationsFault.{RelationsFault}
use Rattle.trace_relations.specs.declared.fault.RelationsFault.TheVariants.{NoTime, TooLate}
use Rattle.trace_relations.specs.declared.moment.Interval.{Interval}
use Rattle.trace_relations.specs.declared.times.Times.{Times}
use Rattle.trace_relations.specs.declared.unit.Unit.{Unit}
use Rattle.trace_relations.specs.SpanNames.{name_of}
use Rattle.trace_relations.specs.Units.{nanoseconds}

-- what comes after a part: nothing after a fault
abbrev pub then_on : {A B : Type 0} → Result A RelationsFault → (A → Result B RelationsFault) → Result B RelationsFault
then_on (Ok a) next = next a
then_on (Err fault) next = Err fault

-- the earlier of two times, of which each may be unknown
abbrev pub earlier : Option ℤ → Option ℤ → Option ℤ
earlier None second = second
earlier (Some first) None = Some first
earlier (Some first) (Some second) = Some (int_min first second)

-- the time of a span, or that it tells none
abbrev pub told_time : Span → Option ℤ → Result ℤ RelationsFault
told_time span None = Err (NoTime (name_of span))
told_time span (Some time) = Ok time

abbrev pub earliest_from : Option ℤ → List (Span × Times) → Result ℤ RelationsFault
earliest_from earliest [] = Ok (unwrap_or earliest (pos 0))
earliest_from earliest ((span, times) ∷ others) =
    then_on (told_time span (earlier times.start times.end)) (λ time.
    earliest_from (earlier earliest (Some time)) others)

-- the earliest time of the trace, or the first span that tells none
unfoldable pub earliest_time : List Span → List Times → Result ℤ RelationsFault
earliest_time spans times = earliest_from None (zip spans times)

unfoldable pub tick_of : Unit → ℤ → ℤ → ℕ
tick_of unit origin time = int_gap origin time / nanoseconds unit

-- where a span ends before it starts, or only its end is known, it took no time
abbrev pub interval_between : Option ℕ → Option ℕ → Interval
interval_between (Some start) (Some end) = record { start = min start end; end = Some end }
interval_between (Some start) None = record { start = start; end = None }
interval_between None (Some end) = record { start = end; end = Some end }
interval_between None None = record { start = 0; end = None }

unfoldable pub interval_of : Unit → ℤ → Times → Interval
interval_of unit origin times = interval_between (option_map (tick_of unit origin) times.start) (option_map (tick_of unit origin) times.end)

abbrev pub last_tick : ℕ
last_tick = 1_099_511_627_776

abbrev pub is_late : Unit → ℤ → Option ℤ → Bool
is_late unit origin None = false
is_late unit origin (Some time) = nat_lt last_tick (tick_of unit origin time)

abbrev pub is_too_late : Unit → ℤ → Times → Bool
is_too_late unit origin times = is_late unit origin times.start || is_late unit origin times.end

-- the tick of a time, if it is not too late
abbrev pub tick_if : Unit → ℤ → ℤ → Option ℕ
tick_if unit origin time = if nat_lt last_tick (tick_of unit origin time) then None else Some (tick_of unit origin time)

-- the ticks of the times of a span, unless one is too late
abbrev pub interval_if : Unit → ℤ → Times → Option Interval
interval_if unit origin times = if is_too_late unit origin times then None else Some (interval_of unit origin times)

abbrev pub is_first : ℤ → Span × Times → Bool
is_first origin pair = option_eq int_eq (earlier pair.1.start pair.1.end) (Some origin)

-- the first span whose earliest time is the earliest of all
abbrev pub first_span : ℤ → List Span → List Times → Span → Span
first_span origin spans times span = option_map_or (λ pair. pair.0) (find (is_first origin) (zip spans times)) span

abbrev pub too_late : ℤ → List Span → List Times → Span → RelationsFault
too_late origin spans times span = TooLate (record { span = name_of span; first = name_of (first_span origin spans times span) })

abbrev pub intervals_from : Unit → ℤ → (Span → RelationsFault) → List (Span × Times) → Result (List Interval) RelationsFault
intervals_from unit origin late [] = Ok []
intervals_from unit origin late ((span, times) ∷ spans) =
    if is_too_late unit origin times then Err (late span) else
    (then_on (intervals_from unit origin late spans) (λ others.
    Ok (interval_of unit origin times ∷ others)))

-- the ticks of each span, or the first that is too late
abbrev pub intervals_of : Unit → ℤ → List Span → List Times → Result (List Interval) RelationsFault
intervals_of unit origin spans times = intervals_from unit origin (too_late origin spans times) (zip spans times)
