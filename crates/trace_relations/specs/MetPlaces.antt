-- Spans that were met, each once.
use Rattle.std.specs.Prelude.{◌≡◌, ℕ, List, nat_eq}
use Rattle.std.specs.List.{list_any}
use Rattle.std.specs.HashSet.{contains_by}
use Rattle.trace_relations.specs.declared.met.Met.{Met}

-- these were met, in this order
abbrev pub HasMet : Met → List ℕ → Type 0
HasMet met places = (met.places.items ≡ places) × ((place : ℕ) → contains_by (nat_eq place) met.known ≡ list_any (nat_eq place) places)
