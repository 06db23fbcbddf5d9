-- No two stages have one name.
use Rattle.std.specs.Prelude.{◌≡◌, ℕ, ◌<◌, ◌^◌, List, [], ◌∷◌, ◌++◌, Bool, true, false, length, nat_eq, Some, slice_get}
use Rattle.std.specs.List.{list_any}
use Rattle.trace_spans.specs.Identifiers.{is_between}
use Rattle.trace_spans.specs.declared.span.Span.{Span}
use Rattle.trace_stages.specs.Names.{names}

abbrev pub begins_with_digit : List ℕ → Bool
begins_with_digit [] = false
begins_with_digit (c ∷ cs) = is_between 48 57 c

-- nothing, or a dot and then no digit: so names are told apart from those with numbers
abbrev pub IsEnding : List ℕ → Type 0
IsEnding [] = Unit {0}
IsEnding (c ∷ cs) = (c ≡ 46) × (begins_with_digit cs ≡ false)

-- each of so many spans is in the order
abbrev pub HasAll : ℕ → List ℕ → Type 0
HasAll count order = (place : ℕ) → place < count → list_any (nat_eq place) order ≡ true

-- names with what is put after them are one only where the spans are, and what is put after them
abbrev pub AreApart : List (List ℕ) → Type 0
AreApart all =
    (place other : ℕ) (name same ending others : List ℕ) → slice_get all place ≡ Some name → slice_get all other ≡ Some same → IsEnding ending → IsEnding others
    → name ++ ending ≡ same ++ others → (place ≡ other) × (ending ≡ others)

-- so it is with the names of spans
abbrev pub NamesAreApart : Type 0
NamesAreApart = (spans : List Span) (order : List ℕ) → HasAll (length spans) order → length order < 2 ^ 63 → AreApart (names spans order)
