-- R. Calls that were tried again: a call that failed, by the next one of the same that started when it had ended.
use Rattle.std.specs.Prelude.{ℕ, ◌&&◌, List, Bool, false, nat_eq, not, is_some, if◌then◌else◌, Option, Some, None, option_and_then, slice_get, filter, find, fold}
use Rattle.std.specs.Option.{option_eq}
use Rattle.trace_spans.specs.declared.span.Span.{Span}
use Rattle.trace_relations.specs.declared.hosts.Host.{Host}
use Rattle.trace_relations.specs.declared.hosts.Host.TheVariants.{Nowhere, Inside, After}
use Rattle.trace_relations.specs.declared.moment.Interval.{Interval}
use Rattle.trace_relations.specs.Ancestry.{parent_at}
use Rattle.trace_relations.specs.Calls.{same_call}
use Rattle.trace_relations.specs.Moments.{ended_before, interval_at, start_moment}

abbrev pub is_inside : Option Host → ℕ → Bool
is_inside None place = false
is_inside (Some Nowhere) place = false
is_inside (Some (Inside host)) place = nat_eq host place
is_inside (Some (After host)) place = false

abbrev pub if_inside : List Host → ℕ → ℕ → Option ℕ
if_inside hosts place parent = if is_inside (slice_get hosts place) parent then Some parent else None

-- the caller of a span: it waits for the span, which begins inside it
abbrev pub caller_of : List Host → List (Option ℕ) → ℕ → Option ℕ
caller_of hosts waiting place = option_and_then (if_inside hosts place) (parent_at waiting place)

abbrev pub is_same_call : Option Span → Option Span → Bool
is_same_call (Some span) (Some other) = same_call span other
is_same_call span other = false

abbrev pub same_caller : Option ℕ → Option ℕ → Bool
same_caller None other = false
same_caller (Some caller) other = option_eq nat_eq (Some caller) other

abbrev pub has_failed : Option Span → Bool
has_failed None = false
has_failed (Some span) = span.failed

-- the spans of a trace, their ticks, and their callers
pub record CallsOf : Type 0 where
  pub spans : List Span
  pub intervals : List Interval
  pub callers : ℕ → Option ℕ

-- a call of the same caller to the same, which started when the other had ended
abbrev pub can_try : CallsOf → ℕ → ℕ → Bool
can_try calls call other =
    same_caller (calls.callers call) (calls.callers other)
    && (is_same_call (slice_get calls.spans call) (slice_get calls.spans other)
    && ended_before (interval_at calls.intervals call) (start_moment (interval_at calls.intervals other)))

-- of each call, by its place: which tries it again, and which it tries again; the first attempt of the whole call, and, of a first attempt, the last
pub record Attempts : Type 0 where
  pub next : ℕ → Option ℕ
  pub previous : ℕ → Option ℕ
  pub first : ℕ → ℕ
  pub last : ℕ → ℕ

abbrev pub at_place : {A : Type 0} → (ℕ → A) → ℕ → A → ℕ → A
at_place values place value = λ other. if nat_eq other place then value else values other

-- each call is tried once
abbrev pub tried_once : Attempts
tried_once = record { next = λ place. None; previous = λ place. None; first = λ place. place; last = λ place. place }

abbrev pub with_try : Attempts → ℕ → Option ℕ → Attempts
with_try attempts call None = attempts
with_try attempts call (Some again) = record {
  next = at_place attempts.next call (Some again);
  previous = at_place attempts.previous again (Some call);
  first = at_place attempts.first again (attempts.first call);
  last = at_place attempts.last (attempts.first call) again;
}

-- the first that can try a call again, and tries no other
abbrev pub first_try : CallsOf → List ℕ → Attempts → ℕ → Option ℕ
first_try calls order attempts call = find (λ other. can_try calls call other && not (is_some (attempts.previous other))) order

-- of calls that failed, one after the other in the order of starts, each is tried again by that
abbrev pub tried_again : CallsOf → List ℕ → Attempts → ℕ → Attempts
tried_again calls order attempts call = with_try attempts call (first_try calls order attempts call)

abbrev pub is_failed_call : CallsOf → ℕ → Bool
is_failed_call calls place = has_failed (slice_get calls.spans place) && is_some (calls.callers place)

abbrev pub attempts_of : CallsOf → List ℕ → Attempts
attempts_of calls order = fold (tried_again calls order) tried_once (filter (is_failed_call calls) order)
