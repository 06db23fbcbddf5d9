-- The numbers of spans among those of one base name.
use Rattle.std.specs.Prelude.{◌≡◌, ℕ, ◌+◌, List, length, count_by, if◌then◌else◌, Option, Some, None, nat_eq, slice_get, unwrap_or, String}
use Rattle.std.specs.HashMap.{HashMap, get_by_text}
use Rattle.std.specs.List.{list_any}
use Rattle.std.specs.declared.alloc.Global.{Global}
use Rattle.trace_stages.specs.Names.{count_before, has_base}

-- how many of these places have a base name
abbrev pub count_of : List (List ℕ) → List ℕ → List ℕ → ℕ
count_of bases order base = count_by (has_base bases base) order

-- the map counts the places of each base name
abbrev pub AreCounts : {S : Type 0} → HashMap (String Global) ℕ S → List (List ℕ) → List ℕ → Type 0
AreCounts counts bases order = (base : List ℕ) → unwrap_or (get_by_text counts base) 0 ≡ count_of bases order base

abbrev pub number_of : List (List ℕ) → List ℕ → ℕ → Option (List ℕ) → Option ℕ
number_of bases order place None = None
number_of bases order place (Some base) = if list_any (nat_eq place) order then Some (count_before bases base place order + 1) else None

-- the numbers of those spans that the order has
abbrev pub AreNumbers : List (Option ℕ) → List (List ℕ) → List ℕ → Type 0
AreNumbers numbers bases order = (length numbers ≡ length bases) × ((place : ℕ) → unwrap_or (slice_get numbers place) None ≡ number_of bases order place (slice_get bases place))
