-- G. Calls that were given up: a caller failed by itself while something that it had called ran on, or just before that answered.
use Rattle.std.specs.Prelude.{ℕ, ◌&&◌, ◌||◌, List, [], ◌∷◌, Bool, true, false, codes, nat_eq, nat_le, not, is_none, is_some, if◌then◌else◌, Option, Some, None, option_and_then, slice_get, filter, length, map}
use Rattle.std.specs.List.{last_or, list_any, range_with_len, starts_with}
use Rattle.std.specs.Option.{option_eq}
use Rattle.std.specs.Str.{str_to_ascii_lowercase}
use Rattle.trace_spans.specs.declared.span.Span.{Span}
use Rattle.trace_relations.specs.declared.moment.Interval.{Interval}
use Rattle.trace_relations.specs.declared.moment.Moment.{Moment}
use Rattle.trace_relations.specs.Ancestry.{parent_at, start_at}
use Rattle.trace_relations.specs.Attempts.{has_failed}
use Rattle.trace_relations.specs.Calls.{is_message, produces}
use Rattle.trace_relations.specs.Moments.{end_moment, ended_before, interval_at, is_before, start_moment}
use Rattle.trace_relations.specs.Waits.{is_named}

-- the spans of a trace, and how they stand to each other
pub record Called : Type 0 where
  pub spans : List Span
  pub intervals : List Interval
  pub references : List (List ℕ × Bool)
  pub parents : List (Option ℕ)
  pub waiting : List (Option ℕ)
  -- which call tries each again
  pub next : ℕ → Option ℕ

-- the word begins somewhere in the name
abbrev pub has_word : List ℕ → List ℕ → Bool
has_word [] word = starts_with nat_eq [] word
has_word (c ∷ name) word = starts_with nat_eq (c ∷ name) word || has_word name word

-- the name of an exception says that time was up
abbrev pub says_late : List ℕ → Bool
says_late name =
    has_word (str_to_ascii_lowercase name) (codes "timeout") || (has_word (str_to_ascii_lowercase name) (codes "timedout")
    || (has_word (str_to_ascii_lowercase name) (codes "timed_out") || has_word (str_to_ascii_lowercase name) (codes "deadline")))

abbrev pub late_name : Option (List ℕ) → Bool
late_name None = false
late_name (Some name) = says_late name

abbrev pub is_late : Option Span → Bool
is_late None = false
is_late (Some span) = late_name span.exception

abbrev pub is_unnamed : Option Span → Bool
is_unnamed None = false
is_unnamed (Some span) = is_none span.exception

abbrev pub has_end : List Interval → ℕ → Bool
has_end intervals place = is_some (interval_at intervals place).end

abbrev pub is_child : List (Option ℕ) → ℕ → ℕ → Bool
is_child parents caller place = option_eq nat_eq (parent_at parents place) (Some caller)

-- a call failed; of one that was tried again, its last attempt
abbrev pub is_failure : Called → ℕ → Bool
is_failure called place = has_failed (slice_get called.spans place) && is_none (called.next place)

-- the caller waits for it
abbrev pub is_failure_of : Called → ℕ → ℕ → Bool
is_failure_of called caller place = is_child called.waiting caller place && is_failure called place

abbrev pub places : Called → List ℕ
places called = range_with_len 0 (length called.spans)

-- it failed and ended, and no call that it waits for failed
abbrev pub failed_by_itself : Called → ℕ → Bool
failed_by_itself called place =
    has_failed (slice_get called.spans place) && (has_end called.intervals place && not (list_any (is_failure_of called place) (places called)))

abbrev pub sends_none : Option Span → Option Span → Bool
sends_none (Some caller) (Some span) = not (is_message caller span)
sends_none caller span = false

abbrev pub ends_past : Option Moment → Option Moment → Bool
ends_past None callers = false
ends_past (Some callers) None = true
ends_past (Some callers) (Some end) = is_before callers end

-- a call started inside its caller, at its start or later, and outlives it
abbrev pub runs_on : Called → ℕ → ℕ → Bool
runs_on called caller place =
    is_named called.references place
    && (sends_none (slice_get called.spans caller) (slice_get called.spans place)
    && (nat_le (start_at called.intervals caller) (start_at called.intervals place)
    && (not (ended_before (interval_at called.intervals caller) (start_moment (interval_at called.intervals place)))
    && ends_past (end_moment (interval_at called.intervals caller)) (end_moment (interval_at called.intervals place)))))

abbrev pub ran_on : Called → ℕ → ℕ → Bool
ran_on called caller place = is_child called.parents caller place && runs_on called caller place

abbrev pub sends : Option Span → Bool
sends None = false
sends (Some span) = produces span.kind

-- a call started at its caller's start or later, and sends no message
abbrev pub answers : Called → ℕ → ℕ → Bool
answers called caller place = nat_le (start_at called.intervals caller) (start_at called.intervals place) && not (sends (slice_get called.spans place))

-- the caller waits for it
abbrev pub may_answer : Called → ℕ → ℕ → Bool
may_answer called caller place = is_child called.waiting caller place && answers called caller place

-- the answer of the last of these was on its way
abbrev pub is_last_answer : Called → List ℕ → ℕ → ℕ → Bool
is_last_answer called order caller place = option_eq nat_eq (last_or None (filter (may_answer called caller) order)) (Some place)

-- what was called when the caller gave up: what ran on, or what was to answer
abbrev pub was_called : Called → List ℕ → ℕ → ℕ → Bool
was_called called order caller place =
    if list_any (ran_on called caller) (places called)
    then ran_on called caller place && (is_late (slice_get called.spans caller) || is_unnamed (slice_get called.spans caller))
    else is_late (slice_get called.spans caller) && is_last_answer called order caller place

abbrev pub if_given_up : Called → List ℕ → ℕ → ℕ → Option ℕ
if_given_up called order place caller = if failed_by_itself called caller && was_called called order caller place then Some caller else None

-- the caller that gave a span up
abbrev pub given_up_by : Called → List ℕ → ℕ → Option ℕ
given_up_by called order place = option_and_then (if_given_up called order place) (parent_at called.parents place)

abbrev pub all_given_up : Called → List ℕ → List (Option ℕ)
all_given_up called order = map (given_up_by called order) (places called)
