-- The other spans that are meant, as they are kept.
use Rattle.std.specs.Prelude.{ℕ, List}
use Rattle.trace_relations.specs.declared.references.Meant.{Meant}
use Rattle.trace_relations.specs.declared.references.Meant.TheVariants.{One, Several}

-- the places, in order
abbrev pub places_in : Meant → List ℕ
places_in (One places) = places
places_in (Several places) = places.items
