-- Calls that are put into groups by their keys, as they are kept.
use Rattle.std.specs.Prelude.{◌≡◌, ℕ, ◌<◌, List, [], All, Bool, true, length, nat_eq, Option, Some, None, slice_get, unwrap_or, filter, bytes_eq, String}
use Rattle.std.specs.HashMap.{HashMap, get_by_text}
use Rattle.std.specs.List.{list_any}
use Rattle.std.specs.Option.{option_eq}
use Rattle.std.specs.declared.alloc.Global.{Global}
use Rattle.trace_relations.specs.declared.call_groups.Group.{Group}
use Rattle.trace_relations.specs.FreePlaces.{AreFree}

abbrev pub calls_in : Option Group → List ℕ
calls_in None = []
calls_in (Some group) = group.calls.items

-- the calls of the group of a number
abbrev pub calls_at : List Group → ℕ → List ℕ
calls_at groups number = calls_in (slice_get groups number)

abbrev pub calls_of : List Group → Option ℕ → List ℕ
calls_of groups None = []
calls_of groups (Some number) = calls_at groups number

-- none of its calls tries another
abbrev pub IsFreeGroup : Group → Type 0
IsFreeGroup group = AreFree group.free (length group.calls.items) (λ number. true)

-- what is kept of the group of a span
abbrev pub number_in : List (Option ℕ) → ℕ → Option ℕ
number_in of_spans place = unwrap_or (slice_get of_spans place) None

abbrev pub has_key : (ℕ → Option (List ℕ)) → List ℕ → ℕ → Bool
has_key keys key place = option_eq bytes_eq (keys place) (Some key)

-- of spans, of which some have keys, those so far stand in groups by their keys
pub record IsGrouping {S : Type 0} (keys : ℕ → Option (List ℕ)) (places : List ℕ) (known : HashMap (String Global) ℕ S) (groups : List Group) (of_spans : List (Option ℕ)) : Type 0 where
  pub calls : (key : List ℕ) → calls_of groups (get_by_text known key) ≡ filter (has_key keys key) places
  pub apart : (key other : List ℕ) (number : ℕ) → get_by_text known key ≡ Some number → get_by_text known other ≡ Some number → key ≡ other
  pub within : (key : List ℕ) (number : ℕ) → get_by_text known key ≡ Some number → number < length groups
  pub free : All IsFreeGroup groups
  pub numbers : (place : ℕ) (key : List ℕ) → list_any (nat_eq place) places ≡ true → keys place ≡ Some key → place < length of_spans → number_in of_spans place ≡ get_by_text known key
