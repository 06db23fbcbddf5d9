-- Parents, and other references: the spans of the trace that the references of a span mean.
use Rattle.std.specs.Prelude.{◌≡◌, ℕ, ◌+◌, ◌==◌, List, [], ◌∷◌, ◌++◌, Bool, true, false, not, nat_eq, if◌then◌else◌, Option, Some, None, option_and_then, fold, slice_get, bytes_eq, String}
use Rattle.std.specs.HashMap.{HashMap, get_by_text}
use Rattle.std.specs.declared.alloc.Global.{Global}
use Rattle.std.specs.List.{list_any, position_from}
use Rattle.trace_spans.specs.Keys.{key_of}
use Rattle.trace_spans.specs.declared.span.Span.{Span}

-- an id means the first span that has it
abbrev pub place_of : List Span → List ℕ → Option ℕ
place_of spans id = position_from (λ span. bytes_eq (key_of span) id) 0 spans

abbrev pub unless_same : ℕ → ℕ → Option ℕ
unless_same place found = if found == place then None else Some found

-- the span that an id means, if it is another than the one at the place
abbrev pub other_place : List Span → ℕ → List ℕ → Option ℕ
other_place spans place id = option_and_then (unless_same place) (place_of spans id)

-- a span is met once
abbrev pub with_place : List ℕ → ℕ → List ℕ
with_place met place = if list_any (nat_eq place) met then met else met ++ place ∷ []

abbrev pub with_found : List ℕ → Option ℕ → List ℕ
with_found met None = met
with_found met (Some place) = with_place met place

-- with the other spans that ids mean
abbrev pub with_meant : List Span → ℕ → List ℕ → List (List ℕ) → List ℕ
with_meant spans place met ids = fold (λ others id. with_found others (other_place spans place id)) met ids

-- what the references of a span mean: the first is its parent, the others are links
abbrev pub meant : List Span → ℕ → Span → List ℕ
meant spans place span = with_meant spans place (with_meant spans place [] span.parents) span.links

abbrev pub is_none_met : List ℕ → Bool
is_none_met [] = true
is_none_met (place ∷ places) = false

-- what the references of a span without links mean
abbrev pub references_of_parents : List Span → ℕ → List (List ℕ) → List ℕ × Bool
references_of_parents spans place parents = (with_meant spans place [] parents, not (is_none_met (with_meant spans place [] parents)))

-- what the references of a span mean, and whether it names a parent that is in the trace
abbrev pub references_of : List Span → ℕ → Span → List ℕ × Bool
references_of spans place span = (meant spans place span, not (is_none_met (with_meant spans place [] span.parents)))

abbrev pub references_from : List Span → ℕ → List Span → List (List ℕ × Bool)
references_from spans place [] = []
references_from spans place (span ∷ others) = references_of spans place span ∷ references_from spans (place + 1) others

abbrev pub all_references : List Span → List (List ℕ × Bool)
all_references spans = references_from spans 0 spans

-- the parent, where it is named as one
abbrev pub named_in : List ℕ × Bool → Option ℕ
named_in references = if references.1 then slice_get references.0 0 else None

-- the first parent in the trace that a span names
abbrev pub named_parent : List Span → ℕ → Span → Option ℕ
named_parent spans place span = named_in (references_of spans place span)

-- the map has the place of each id
abbrev pub IsPlacing : {S : Type 0} → HashMap (String Global) ℕ S → List Span → Type 0
IsPlacing places spans = (id : List ℕ) → get_by_text places id ≡ place_of spans id
