-- By how much the clocks of a trace are moved.
use Rattle.std.specs.Prelude.{ℕ, ℤ, pos, ◌&&◌, List, Bool, filter, length, map, nat_eq, not, if◌then◌else◌, Some, None, unwrap_or}
use Rattle.std.specs.List.{range_with_len}
use Rattle.std.specs.Ordering.{int_eq}
use Rattle.trace_spans.specs.declared.span.Span.{Span}
use Rattle.trace_relations.specs.declared.placing.Moved.{Moved}
use Rattle.trace_relations.specs.ClockNumbers.{all_pairs, clock_at, is_root_clock}
use Rattle.trace_relations.specs.Clocks.{Moves, placed}

-- the clocks of spans that name no parent in the trace stay as they are
abbrev pub roots_placed : List Span → Moves
roots_placed spans = λ clock. if is_root_clock spans clock then Some (pos 0) else None

-- no clock is placed twice, so after as many steps as there are spans all are placed that pairs reach
abbrev pub all_placed : List Span → Moves
all_placed spans = placed (all_pairs spans) (length spans) (roots_placed spans)

-- by how much the clock of the span at a place is moved
abbrev pub all_moves : List Span → ℕ → ℤ
all_moves spans place = unwrap_or (all_placed spans (clock_at spans place)) (pos 0)

-- a span is the first that has its clock, and that is moved
abbrev pub is_moved : List Span → (ℕ → ℤ) → ℕ → Bool
is_moved spans moves place = nat_eq (clock_at spans place) place && not (int_eq (moves place) (pos 0))

abbrev pub moved_clock : (ℕ → ℤ) → ℕ → Moved
moved_clock moves place = record { clock = place; by = moves place }

-- the clocks that are moved, by the first spans that have them
abbrev pub moved_clocks : List Span → (ℕ → ℤ) → List Moved
moved_clocks spans moves = map (moved_clock moves) (filter (is_moved spans moves) (range_with_len 0 (length spans)))
