-- A JSON value as `serde_json` reads it.
use Rattle.std.specs.Prelude.{◌≡◌, ℕ, List, [], Some, unwrap_or}
use Rattle.json.specs.Json as json
use Rattle.serde_json.specs.Data.{Data, null, Items, no_items}
use Rattle.serde_json.specs.Read.{of_json, of_items}
use Rattle.json_trees.specs.Named.{of_pairs}

-- null where a number in it is past all floats
abbrev pub data_of : json.Json → Data
data_of j = unwrap_or (of_json j) null

abbrev pub items_of : json.Items → Items
items_of js = unwrap_or (of_items js) no_items

abbrev pub pairs_of : json.Members → List (List ℕ × Data)
pairs_of ms = unwrap_or (of_pairs ms) []

-- `serde_json` reads it
abbrev pub HasData : json.Json → Type 0
HasData j = (d : Data) × (of_json j ≡ Some d)

abbrev pub HasItems : json.Items → Type 0
HasItems js = (ds : Items) × (of_items js ≡ Some ds)

abbrev pub HasPairs : json.Members → Type 0
HasPairs ms = (ps : List (List ℕ × Data)) × (of_pairs ms ≡ Some ps)
