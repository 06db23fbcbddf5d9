-- Stages that wait for each other.
use Rattle.std.specs.Prelude.{ℕ, List, [], ◌∷◌, ◌++◌, Bool, true, false, ◌&&◌, ◌||◌, if◌then◌else◌, nat_lt, length, take, codes, slice_get, Option, Some, None, option_map, option_and_then, unwrap_or}
use Rattle.std.specs.Fmt.{decimal}
use Rattle.std.specs.List.{join_by, list_any}
use Rattle.std.specs.Str.{bytes_eq}
use Rattle.serde_json.specs.Data.{Data, Items, no_items, item}
use Rattle.serde_json.specs.Find.{as_array, as_str, get}
use Rattle.json_names.specs.declared.circle.TheConstants.{MOST_TOLD}

-- the items, as a list
abbrev pub list_of : Items → List Data
list_of no_items = []
list_of (item value rest) = value ∷ list_of rest

-- the elements of a member, and none where it is not there, or no array
abbrev pub items_of : List ℕ → Data → List Data
items_of name value = unwrap_or (option_map list_of (option_and_then as_array (get name value))) []

-- the name of a stage, where it has one
abbrev pub name_of : Data → Option (List ℕ)
name_of stage = option_and_then as_str (get (codes "name") stage)

-- whether a value is this text
abbrev pub is_text : List ℕ → Data → Bool
is_text text value = unwrap_or (option_map (λ own. bytes_eq own text) (as_str value)) false

-- a stage waits for each of its sources and of its inner stages
abbrev pub waits_for : Data → List ℕ → Bool
waits_for stage name = list_any (is_text name) (items_of (codes "sources") stage) || list_any (is_text name) (items_of (codes "inner") stage)

-- whether the stage before, if there is one, waits for the one of this name
abbrev pub is_awaited : Option Data → List ℕ → Bool
is_awaited before name = unwrap_or (option_map (λ stage. waits_for stage name) before) true

-- the stages of a recording
abbrev pub stages_of : Data → List Data
stages_of recording = items_of (codes "stages") recording

-- the name of the stage at a place
abbrev pub name_at : List Data → ℕ → Option (List ℕ)
name_at stages place = option_and_then name_of (slice_get stages place)

-- the names of the stages at the places, if there is one with a name at each of them
abbrev pub names_at : List Data → List ℕ → Option (List (List ℕ))
names_at stages [] = Some []
names_at stages (place ∷ places) = option_and_then (λ name. option_map (λ names. name ∷ names) (names_at stages places)) (name_at stages place)

-- whether a stage waits for the one at the first of the places, if there is a first
abbrev pub waits_for_first : List Data → Data → List ℕ → Bool
waits_for_first stages stage [] = true
waits_for_first stages stage (place ∷ places) = unwrap_or (option_map (waits_for stage) (name_at stages place)) false

-- whether the stage at each place waits for the one at the next place
abbrev pub each_waits : List Data → List ℕ → Bool
each_waits stages [] = true
each_waits stages (place ∷ places) = unwrap_or (option_map (λ stage. waits_for_first stages stage places) (slice_get stages place)) false && each_waits stages places

-- the names of stages each of which waits for the next one, and nothing where they do not
abbrev pub circle_names : Data → List ℕ → Option (List (List ℕ))
circle_names recording places = if each_waits (stages_of recording) places then names_at (stages_of recording) places else None

-- names, with a comma between each two
abbrev pub listed : List (List ℕ) → List ℕ
listed names = join_by (λ name. name) (codes ", ") names

-- the first names are told, and where there are more, how many there are
abbrev pub circle_text : List (List ℕ) → List ℕ
circle_text names =
    codes "these stages wait for each other: " ++ listed (take MOST_TOLD names)
    ++ (if nat_lt MOST_TOLD (length names) then codes ", and so on: " ++ decimal (length names) ++ codes " in all" else [])
