-- What spans wait for.
use Rattle.std.specs.Prelude.{ℕ, ◌&&◌, List, Bool, true, false, length, map, not, if◌then◌else◌, Option, Some, None, option_and_then, slice_get}
use Rattle.std.specs.List.{range_with_len}
use Rattle.trace_spans.specs.declared.span.Span.{Span}
use Rattle.trace_relations.specs.declared.moment.Interval.{Interval}
use Rattle.trace_relations.specs.declared.moment.Moment.{Moment}
use Rattle.trace_relations.specs.Ancestry.{parent_at}
use Rattle.trace_relations.specs.Calls.{is_queued}
use Rattle.trace_relations.specs.Moments.{end_moment, interval_at, is_before}
use Rattle.trace_relations.specs.Parents.{named_in}

abbrev pub is_between_queue : Option Span → Option Span → Bool
is_between_queue (Some caller) (Some span) = is_queued caller span
is_between_queue caller span = false

-- a consumer below a producer
abbrev pub takes_from_queue : List Span → ℕ → ℕ → Bool
takes_from_queue spans child parent = is_between_queue (slice_get spans parent) (slice_get spans child)

abbrev pub is_within : Option Moment → Option Moment → Bool
is_within None parent = false
is_within (Some child) None = true
is_within (Some child) (Some parent) = not (is_before parent child)

-- it has ended, and not after its parent
abbrev pub ends_within : Interval → Interval → Bool
ends_within child parent = is_within (end_moment child) (end_moment parent)

abbrev pub is_true : Option (List ℕ × Bool) → Bool
is_true None = false
is_true (Some references) = references.1

-- whether the parent is named as one, and isn't a link
abbrev pub is_named : List (List ℕ × Bool) → ℕ → Bool
is_named references place = is_true (slice_get references place)

abbrev pub named_among : Option (List ℕ × Bool) → Option ℕ
named_among None = None
named_among (Some references) = named_in references

-- the caller of a span: the parent that it names
abbrev pub caller_named : List (List ℕ × Bool) → ℕ → Option ℕ
caller_named references place = named_among (slice_get references place)

abbrev pub if_waiting : List Span → List Interval → List (List ℕ × Bool) → ℕ → ℕ → Option ℕ
if_waiting spans intervals references place parent =
    if (is_named references place && not (takes_from_queue spans place parent)) && ends_within (interval_at intervals place) (interval_at intervals parent) then Some parent else None

-- the parent that waits for a span
abbrev pub waiting_parent : List Span → List Interval → List (List ℕ × Bool) → List (Option ℕ) → ℕ → Option ℕ
waiting_parent spans intervals references parents place = option_and_then (if_waiting spans intervals references place) (parent_at parents place)

-- the parent that waits for each span
abbrev pub waiting_parents : List Span → List Interval → List (List ℕ × Bool) → List (Option ℕ) → List (Option ℕ)
waiting_parents spans intervals references parents = map (waiting_parent spans intervals references parents) (range_with_len 0 (length spans))
