-- The clocks of all spans, and what all pairs of spans say of them.
use Rattle.std.specs.Prelude.{◌≡◌, ℕ, ◌+◌, ◌++◌, ◌&&◌, List, [], ◌∷◌, Bool, length, map, nat_eq, is_none, Option, Some, None, slice_get}
use Rattle.std.specs.List.{list_any, range_with_len}
use Rattle.trace_spans.specs.declared.span.Span.{Span}
use Rattle.trace_relations.specs.declared.clocks.Pair.{Pair}
use Rattle.trace_relations.specs.Clocks.{clock_of, pair_of}
use Rattle.trace_relations.specs.Parents.{all_references}
use Rattle.trace_relations.specs.Waits.{caller_named}

-- the clock of each span
abbrev pub AreClocks : List Span → List ℕ → Type 0
AreClocks spans clocks = clocks ≡ map (clock_of spans) spans

abbrev pub pairs_from : List Span → ℕ → List Span → List Pair
pairs_from spans place [] = []
pairs_from spans place (span ∷ others) = pair_of spans place span ++ pairs_from spans (place + 1) others

-- what spans and the first parents that they name say of their clocks, in the order of the file
abbrev pub all_pairs : List Span → List Pair
all_pairs spans = pairs_from spans 0 spans

abbrev pub clock_at_some : List Span → ℕ → Option Span → ℕ
clock_at_some spans place None = place
clock_at_some spans place (Some span) = clock_of spans span

-- the clock of the span at a place
abbrev pub clock_at : List Span → ℕ → ℕ
clock_at spans place = clock_at_some spans place (slice_get spans place)

abbrev pub is_root_of : List Span → ℕ → ℕ → Bool
is_root_of spans clock place = nat_eq (clock_at spans place) clock && is_none (caller_named (all_references spans) place)

-- of so many spans one that names no parent in the trace has the clock
abbrev pub is_root_among : List Span → ℕ → ℕ → Bool
is_root_among spans count clock = list_any (is_root_of spans clock) (range_with_len 0 count)

abbrev pub is_root_clock : List Span → ℕ → Bool
is_root_clock spans clock = is_root_among spans (length spans) clock
