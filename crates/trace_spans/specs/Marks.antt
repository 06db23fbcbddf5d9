-- What tells spans from their repeats.
use Rattle.std.specs.Prelude.{◌≡◌, ◌&&◌, ◌++◌, List, [], ◌∷◌, Bool, not, nat_eq, if◌then◌else◌, string_bytes}
use Rattle.std.specs.Bool.{beq}
use Rattle.std.specs.List.{list_any}
use Rattle.std.specs.Option.{option_eq}
use Rattle.std.specs.Str.{bytes_eq}
use Rattle.std.specs.HashSet.{HashSet, contains_by}
use Rattle.std.specs.String.{string_eq}
use Rattle.trace_spans.specs.declared.choice.Mark.{Mark}
use Rattle.trace_spans.specs.declared.span.Span.{Span}
use Rattle.trace_spans.specs.Choice.{is_repeated}
use Rattle.trace_spans.specs.Identifiers.{compared}

-- the mark has what tells the span from its repeats
abbrev pub IsMarkOf : Mark → Span → Type 0
IsMarkOf mark span =
    (string_bytes mark.id ≡ compared span.id) × (mark.shared ≡ span.shared) × (string_bytes mark.service ≡ span.service) × (string_bytes mark.name ≡ span.name)
    × (mark.start ≡ span.start) × (mark.end ≡ span.end)

abbrev pub is_mark_of : Mark → Span → Bool
is_mark_of mark span =
    bytes_eq (compared span.id) (string_bytes mark.id)
    && (beq span.shared mark.shared && (bytes_eq span.service (string_bytes mark.service) && (bytes_eq span.name (string_bytes mark.name) && (option_eq nat_eq span.start mark.start && option_eq nat_eq span.end mark.end))))

abbrev pub same_mark : Mark → Mark → Bool
same_mark mark other =
    string_eq mark.id other.id
    && (beq mark.shared other.shared && (string_eq mark.service other.service && (string_eq mark.name other.name && (option_eq nat_eq mark.start other.start && option_eq nat_eq mark.end other.end))))

-- the marks are those of the spans
abbrev pub AreMarksOf : {S : Type 0} → HashSet Mark S → List Span → Type 0
AreMarksOf marks spans = (mark : Mark) → contains_by (same_mark mark) marks ≡ list_any (is_mark_of mark) spans

-- one more span was noted, or it is no new one
abbrev pub AreNoted : {S : Type 0} → HashSet Mark S → List Span → Span → Bool → Type 0
AreNoted marks earlier span is_new = (is_new ≡ not (is_repeated earlier span)) × AreMarksOf marks (if is_new then earlier ++ span ∷ [] else earlier)
