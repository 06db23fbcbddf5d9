-- Ancestors: the parent of a span, that one's parent, and so on.
use Rattle.std.specs.Prelude.{ℕ, suc, zero, ◌&&◌, ◌||◌, ◌==◌, List, [], ◌∷◌, Bool, length, map, nat_eq, nat_le, nat_lt, if◌then◌else◌, Option, Some, None, slice_get, find}
use Rattle.std.specs.List.{range_with_len}
use Rattle.std.specs.Option.{option_eq}
use Rattle.trace_relations.specs.declared.moment.Interval.{Interval}
use Rattle.trace_relations.specs.Moments.{interval_at}

abbrev pub known : Option (Option ℕ) → Option ℕ
known None = None
known (Some place) = place

-- the parent of the span at a place
abbrev pub parent_at : List (Option ℕ) → ℕ → Option ℕ
parent_at parents place = known (slice_get parents place)

-- so many spans in a line: one, its parent, that one's parent ..; less where a span has none
unfoldable pub line : List (Option ℕ) → ℕ → Option ℕ → List ℕ
line parents zero first = []
line parents (suc n) None = []
line parents (suc n) (Some place) = place ∷ line parents n (parent_at parents place)

-- a trace has no more spans
abbrev pub most_spans : ℕ
most_spans = 65_536

-- all ancestors of a span
abbrev pub ancestors : List (Option ℕ) → ℕ → List ℕ
ancestors parents place = line parents most_spans (parent_at parents place)

abbrev pub start_at : List Interval → ℕ → ℕ
start_at intervals place = (interval_at intervals place).start

-- whether a span starts before another, or at the same tick and comes before it in the file
abbrev pub comes_first : List Interval → ℕ → ℕ → Bool
comes_first intervals place other =
    nat_lt (start_at intervals place) (start_at intervals other)
    || (start_at intervals place == start_at intervals other && nat_lt place other)

abbrev pub first_of : List Interval → ℕ → ℕ → ℕ
first_of intervals place other = if comes_first intervals other place then other else place

abbrev pub first_with : List Interval → ℕ → Option ℕ → ℕ
first_with intervals place None = place
first_with intervals place (Some other) = first_of intervals place other

-- the one of spans that starts first
abbrev pub first_among : List Interval → List ℕ → Option ℕ
first_among intervals [] = None
first_among intervals (place ∷ places) = Some (first_with intervals place (first_among intervals places))

-- a span that is the first of its own ancestors is the first of a circle
abbrev pub is_first_of_circle : List Interval → List (Option ℕ) → ℕ → Bool
is_first_of_circle intervals parents place = option_eq nat_eq (first_among intervals (ancestors parents place)) (Some place)

abbrev pub parent_without_circles : List Interval → List (Option ℕ) → ℕ → Option ℕ
parent_without_circles intervals parents place = if is_first_of_circle intervals parents place then None else parent_at parents place

-- in a circle of parents the span that starts first has none
abbrev pub without_circles : List Interval → List (Option ℕ) → List (Option ℕ)
without_circles intervals parents = map (parent_without_circles intervals parents) (range_with_len 0 (length parents))

-- the nearest ancestor that starts no later
abbrev pub host_of : List Interval → List (Option ℕ) → ℕ → Option ℕ
host_of intervals parents place = find (λ other. nat_le (start_at intervals other) (start_at intervals place)) (ancestors parents place)
