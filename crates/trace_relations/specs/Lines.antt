-- Lines of ancestors, as they are kept: of each the span that starts first, and the span after it.
use Rattle.std.specs.Prelude.{◌≡◌, ℕ, suc, zero, ◌^◌, ◌==◌, List, Bool, false, if◌then◌else◌, Option, Some, None, Vec, slice_get, unwrap_or}
use Rattle.std.specs.declared.alloc.Global.{Global}
use Rattle.trace_relations.specs.declared.ancestry.Line.{Line}
use Rattle.trace_relations.specs.declared.moment.Interval.{Interval}
use Rattle.trace_relations.specs.Ancestry.{first_among, first_of, line, most_spans, parent_at}

-- the line that begins with the span at a place
abbrev pub line_at : List Line → ℕ → Line
line_at lines place = unwrap_or (slice_get lines place) (record { first = place; after = None })

abbrev pub line_of_one : List (Option ℕ) → ℕ → Line
line_of_one parents place = record { first = place; after = parent_at parents place }

abbrev pub followed_by : List Interval → List Line → Line → Option ℕ → Line
followed_by intervals lines line None = line
followed_by intervals lines line (Some next) = record { first = first_of intervals line.first (line_at lines next).first; after = (line_at lines next).after }

-- the line and the next as one
abbrev pub line_of_two : List Interval → List Line → ℕ → Line
line_of_two intervals lines place = followed_by intervals lines (line_at lines place) (line_at lines place).after

-- the span after a line of so many
unfoldable pub after_line : List (Option ℕ) → ℕ → Option ℕ → Option ℕ
after_line parents zero first = first
after_line parents (suc n) None = None
after_line parents (suc n) (Some place) = after_line parents n (parent_at parents place)

-- the lines have so many spans
abbrev pub AreLines : List Interval → List (Option ℕ) → ℕ → List Line → Type 0
AreLines intervals parents n lines =
    (place : ℕ) → ((line_at lines place).after ≡ after_line parents n (Some place)) × (Some (line_at lines place).first ≡ first_among intervals (line parents n (Some place)))

-- lines of 1, 2, 4, 8 .. spans
abbrev pub AreLevels : List Interval → List (Option ℕ) → List (Vec Line Global) → Type 0
AreLevels intervals parents levels = (k : ℕ) (lines : Vec Line Global) → slice_get levels k ≡ Some lines → AreLines intervals parents (2 ^ k) lines.items

-- lines of so many spans have all ancestors
abbrev pub HaveAll : List (Option ℕ) → ℕ → Type 0
HaveAll parents n = (first : Option ℕ) → line parents most_spans first ≡ line parents n first

abbrev pub is_line_first : List Line → Option ℕ → ℕ → Bool
is_line_first lines None place = false
is_line_first lines (Some parent) place = (line_at lines parent).first == place

-- the parent of a span that isn't the first of the line of its own ancestors
abbrev pub parent_by_lines : List Line → List (Option ℕ) → ℕ → Option ℕ
parent_by_lines lines parents place = if is_line_first lines (parent_at parents place) place then None else parent_at parents place
