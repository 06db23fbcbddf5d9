-- Which span of a trace answers.
use Rattle.std.specs.Prelude.{ℕ, Bool, false, ◌||◌, List, bytes_eq, Option, Some, None, is_some, not, slice_get}
use Rattle.trace_spans.specs.declared.span.Span.{Span}
use Rattle.trace_groups.specs.GroupNames.{span_name}

-- it has the name, alone or behind its service and a dot
abbrev pub is_named : List ℕ → Span → Bool
is_named name span = bytes_eq span.name name || bytes_eq (span_name span) name

abbrev pub has_no_parent : Option (Option ℕ) → Bool
has_no_parent None = false
has_no_parent (Some parent) = not (is_some parent)

abbrev pub is_root : List (Option ℕ) → ℕ → Bool
is_root parents place = has_no_parent (slice_get parents place)

abbrev pub answers_as : List (Option ℕ) → Option (List ℕ) → ℕ → Option Span → Bool
answers_as parents wanted place None = false
answers_as parents (Some name) place (Some span) = is_named name span
answers_as parents None place (Some span) = is_root parents place

-- the span at a place is one that is asked for: one of this name, or a root where no name is asked for
abbrev pub answers_for : List Span → List (Option ℕ) → Option (List ℕ) → ℕ → Bool
answers_for spans parents wanted place = answers_as parents wanted place (slice_get spans place)
