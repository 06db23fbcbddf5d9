-- The names of spans' stages.
use Rattle.std.specs.Prelude.{ℕ, ◌+◌, ◌-◌, List, [], ◌∷◌, ◌++◌, Bool, false, codes, bytes_eq, length, map, nat_eq, nat_lt, if◌then◌else◌, Option, Some, None, slice_get}
use Rattle.std.specs.Fmt.{decimal}
use Rattle.trace_spans.specs.declared.span.Span.{Span}
use Rattle.trace_stages.specs.Words.{words_or}

-- 20 characters of the words of a service
abbrev pub service_name : Span → List ℕ
service_name span = words_or (codes "service") 20 span.service

-- of the words of a name, the characters that make 46 with those
abbrev pub own_name : Span → List ℕ
own_name span = words_or (codes "span") (46 - length (service_name span)) span.name

-- the name of a span's stage, but for its number
unfoldable pub base_name : Span → List ℕ
base_name span = service_name span ++ codes "." ++ own_name span

abbrev pub is_same_name : List ℕ → Option (List ℕ) → Bool
is_same_name name None = false
is_same_name name (Some other) = bytes_eq name other

-- whether the span at a place has a base name
abbrev pub has_base : List (List ℕ) → List ℕ → ℕ → Bool
has_base bases base place = is_same_name base (slice_get bases place)

-- how many spans come before a place in an order, and have a base name
abbrev pub count_before : List (List ℕ) → List ℕ → ℕ → List ℕ → ℕ
count_before bases base place [] = 0
count_before bases base place (first ∷ others) =
    if nat_eq place first then 0 else ((if has_base bases base first then 1 else 0) + count_before bases base place others)

-- the number from the second span of a base name on
abbrev pub with_number : List ℕ → ℕ → List ℕ
with_number base number = if nat_lt 1 number then base ++ codes "." ++ decimal number else base

-- the names of spans' stages, of which these come first
abbrev pub names_from : List (List ℕ) → List ℕ → ℕ → List (List ℕ) → List (List ℕ)
names_from bases order place [] = []
names_from bases order place (base ∷ others) = with_number base (count_before bases base place order + 1) ∷ names_from bases order (place + 1) others

-- the name of each span's stage, where the numbers go by an order of the spans
unfoldable pub names : List Span → List ℕ → List (List ℕ)
names spans order = names_from (map base_name spans) order 0 (map base_name spans)
