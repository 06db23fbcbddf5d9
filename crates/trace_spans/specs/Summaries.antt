-- What a trace is, in short.
use Rattle.std.specs.Prelude.{ℕ, ◌-◌, List, [], ◌∷◌, Bool, true, false, min, max, length, nat_lt, count_by, fold, if◌then◌else◌, Option, Some, None}
use Rattle.trace_spans.specs.declared.span.Span.{Span}
use Rattle.trace_spans.specs.declared.summary.Summary.{Summary}
use Rattle.trace_spans.specs.declared.trace.Trace.{Trace}

-- the earlier of two times, where both are known
abbrev pub earlier : Option ℕ → Option ℕ → Option ℕ
earlier None other = other
earlier (Some time) None = Some time
earlier (Some time) (Some other) = Some (min time other)

-- the later of two times, where both are known
abbrev pub later : Option ℕ → Option ℕ → Option ℕ
later None other = other
later (Some time) None = Some time
later (Some time) (Some other) = Some (max time other)

-- the first time that a span tells, and the last
abbrev pub first_time : Span → Option ℕ
first_time span = earlier span.start span.end

abbrev pub last_time : Span → Option ℕ
last_time span = later span.start span.end

abbrev pub is_known_before : Option ℕ → Option ℕ → Bool
is_known_before None other = false
is_known_before (Some time) None = true
is_known_before (Some time) (Some other) = nat_lt time other

abbrev pub names_parents : List (List ℕ) → Bool
names_parents [] = false
names_parents (parent ∷ parents) = true

abbrev pub is_root_before : Bool → Bool → Bool → Bool
is_root_before true true earlier = earlier
is_root_before false false earlier = earlier
is_root_before false true earlier = true
is_root_before true false earlier = false

-- a span is rather the root than another: one that names no parent than one that does, then the earlier
abbrev pub is_before : Span → Span → Bool
is_before span other = is_root_before (names_parents span.parents) (names_parents other.parents) (is_known_before (first_time span) (first_time other))

abbrev pub root_with : Option Span → Span → Option Span
root_with None span = Some span
root_with (Some root) span = if is_before span root then Some span else Some root

unfoldable pub root_of : List Span → Option Span
root_of spans = fold root_with None spans

abbrev pub name_of : Option Span → List ℕ
name_of None = []
name_of (Some span) = span.name

abbrev pub start_of : List Span → Option ℕ
start_of spans = fold (λ time span. earlier time (first_time span)) None spans

abbrev pub end_of : List Span → Option ℕ
end_of spans = fold (λ time span. later time (last_time span)) None spans

abbrev pub between : Option ℕ → Option ℕ → ℕ
between None end = 0
between (Some start) None = 0
between (Some start) (Some end) = end - start

unfoldable pub summary_of : Trace → Summary
summary_of trace = record {
  id = trace.id;
  root = name_of (root_of trace.spans);
  start = start_of trace.spans;
  length = between (start_of trace.spans) (end_of trace.spans);
  spans = length trace.spans;
  failures = count_by (λ span. span.failed) trace.spans;
}
