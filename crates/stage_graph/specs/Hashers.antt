-- The hashers of the names of a list.
use Rattle.std.specs.Prelude.{ℕ, List, fold}
use Rattle.std.specs.Hash as fed
use Rattle.std.specs.Hash.DefaultHasher as sip
use Rattle.std.specs.declared.hash.DefaultHasher.{DefaultHasher}
use Rattle.indexmap.specs.IndexMap.{hasher_of}
use Rattle.stage_graph.specs.declared.stage.Spec.{Spec}
use Rattle.stage_graph.specs.declared.name_table.FirstPlaces.{FirstPlaces}

-- the hasher that has taken in a name too
abbrev pub after_name : DefaultHasher → List ℕ → DefaultHasher
after_name hasher name = fold sip.write hasher (fed.str name)

-- the hasher that has taken in the names of a list, one after the other
abbrev pub after_names : List Spec → DefaultHasher
after_names specs = fold (λ hasher spec. after_name hasher spec.name) sip.initial specs

-- the hasher with which each hash of a table of names begins
abbrev pub hashes_begin : FirstPlaces → DefaultHasher
hashes_begin names = (hasher_of names.places).start
