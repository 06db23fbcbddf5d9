-- Stages by name, and stages whose names are replaced by places.
use Rattle.std.specs.Prelude.{ℕ, ◌≡◌, ◌&&◌, if◌then◌else◌, List, map, Option, Some, None, unwrap_or, position}
use Rattle.std.specs.Str.{bytes_eq}
use Rattle.indexmap.specs.IndexMap.{get_by_text}
use Rattle.stage_graph.specs.declared.stage.Stage.{Stage}
use Rattle.stage_graph.specs.declared.stage.Feeds.{Feeds}
use Rattle.stage_graph.specs.declared.stage.Spec.{Spec}
use Rattle.stage_graph.specs.Checks.{are_known}
use Rattle.stage_graph.specs.declared.name_table.FirstPlaces.{FirstPlaces}
use Rattle.stage_graph.specs.declared.name_table.NameTable.{NameTable}
use Rattle.stage_graph.specs.NameTrees.{told}
use Rattle.stage_graph.specs.Plain.{place_named}

-- the first place of a name in a list of stages with names
abbrev pub place_of : List Spec → List ℕ → Option ℕ
place_of specs name = position (λ spec. bytes_eq spec.name name) specs

-- the places of names
abbrev pub places_of : (List ℕ → Option ℕ) → List (List ℕ) → List ℕ
places_of find names = map (λ name. unwrap_or (find name) 0) names

-- the places of names, if each of them has one
abbrev pub known_places : (List ℕ → Option ℕ) → List (List ℕ) → Option (List ℕ)
known_places find names = if are_known find names then Some (places_of find names) else None

-- the places of sources and inner stages
abbrev pub feeds_of : (List ℕ → Option ℕ) → List (List ℕ) → List (List ℕ) → Feeds
feeds_of find sources inner = record { sources = places_of find sources; inner = places_of find inner }

-- those, if each of these names has one
abbrev pub known_feeds : (List ℕ → Option ℕ) → List (List ℕ) → List (List ℕ) → Option Feeds
known_feeds find sources inner = if are_known find sources && are_known find inner then Some (feeds_of find sources inner) else None

-- the stage at a place, where its feeds have these places
abbrev pub placed : ℕ → Feeds → Spec → Stage
placed place feeds spec = record {
  place = place;
  name = spec.name;
  op = spec.op;
  sources = feeds.sources;
  inner = feeds.inner;
  created = spec.created;
  queued = spec.queued;
  runs = spec.runs;
  action = spec.action;
  pin_result = spec.pin_result;
  pin_moment = spec.pin_moment;
  ends = spec.ends;
}

-- the stage that stands at a place, with places for names
abbrev pub stage_of : (List ℕ → Option ℕ) → ℕ → Spec → Stage
stage_of find place spec = placed place (feeds_of find spec.sources spec.inner) spec

-- the first place of a name of a list
abbrev pub first_place : FirstPlaces → List ℕ → Option ℕ
first_place names name = get_by_text names.places name

-- the place of a name: that of its latest entry, or else the one that was loaded
abbrev pub found : NameTable → List ℕ → Option ℕ
found table name = unwrap_or (told table.since name) (first_place table.loaded name)

-- the table has the place of each name
abbrev pub IsTableOf : List (Option Stage) → NameTable → Type 0
IsTableOf places table = (name : List ℕ) → found table name ≡ place_named places name
