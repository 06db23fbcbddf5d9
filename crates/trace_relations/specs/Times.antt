-- The times of spans by the clocks of the roots, in nanoseconds since 1970.
use Rattle.std.specs.Prelude.{ℕ, ℤ, pos, ◌+ℤ◌, ◌+◌, List, [], ◌∷◌, option_map}
use Rattle.trace_spans.specs.declared.span.Span.{Span}
use Rattle.trace_relations.specs.declared.times.Times.{Times}

-- a time of a clock that is moved
abbrev pub moved_time : ℤ → ℕ → ℤ
moved_time by time = pos time +ℤ by

abbrev pub times_moved : ℤ → Span → Times
times_moved by span = record { start = option_map (moved_time by) span.start; end = option_map (moved_time by) span.end }

-- the times of spans, of which those from a place on are these, where the clock of the span at each place is moved so
abbrev pub times_from : (ℕ → ℤ) → ℕ → List Span → List Times
times_from moves place [] = []
times_from moves place (span ∷ spans) = times_moved (moves place) span ∷ times_from moves (place + 1) spans

abbrev pub times_of : (ℕ → ℤ) → List Span → List Times
times_of moves spans = times_from moves 0 spans
