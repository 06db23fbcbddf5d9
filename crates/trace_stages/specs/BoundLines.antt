-- Lines of ancestors, as they are kept: of each when the first caller ended that gave one of its spans up, and the span after it.
use Rattle.std.specs.Prelude.{◌≡◌, ℕ, List, Option, Some, None, slice_get, unwrap_or}
use Rattle.trace_relations.specs.Ancestry.{line, most_spans, parent_at}
use Rattle.trace_relations.specs.Lines.{after_line}
use Rattle.trace_relations.specs.Relations.{PlainRelations}
use Rattle.trace_stages.specs.Bounds.{callers_end, earlier_moment, earliest_end}
use Rattle.trace_stages.specs.declared.bounds.BoundLine.{BoundLine}

-- the line that begins with the span at a place
abbrev pub line_at : PlainRelations → List BoundLine → ℕ → BoundLine
line_at relations lines place = unwrap_or (slice_get lines place) (record { bound = callers_end relations place; after = None })

abbrev pub line_of_one : PlainRelations → ℕ → BoundLine
line_of_one relations place = record { bound = callers_end relations place; after = parent_at relations.parents place }

abbrev pub followed_by : PlainRelations → List BoundLine → BoundLine → Option ℕ → BoundLine
followed_by relations lines here None = here
followed_by relations lines here (Some next) =
    record { bound = earlier_moment here.bound (line_at relations lines next).bound; after = (line_at relations lines next).after }

-- the line and the next as one
abbrev pub line_of_two : PlainRelations → List BoundLine → ℕ → BoundLine
line_of_two relations lines place = followed_by relations lines (line_at relations lines place) (line_at relations lines place).after

-- the lines have so many spans
abbrev pub AreLines : PlainRelations → ℕ → List BoundLine → Type 0
AreLines relations n lines =
    (place : ℕ)
    → ((line_at relations lines place).after ≡ after_line relations.parents n (Some place))
    × ((line_at relations lines place).bound ≡ earliest_end relations (line relations.parents n (Some place)))

-- the lines have all ancestors
abbrev pub AreWhole : PlainRelations → List BoundLine → Type 0
AreWhole relations lines = (place : ℕ) → (line_at relations lines place).bound ≡ earliest_end relations (line relations.parents most_spans (Some place))
