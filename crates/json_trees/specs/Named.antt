-- The members of an object in the text's order, and the object that they make.
use Rattle.std.specs.Prelude.{ℕ, List, [], ◌∷◌, cond, Option, Some, option_map, option_and_then, bytes_eq}
use Rattle.std.specs.Coded.{Coded, coded×, coded_ℕ, coded_list}
use Rattle.json.specs.Json as json
use Rattle.serde_json.specs.Data.{Data, Members, put}
use Rattle.serde_json.specs.Read.{of_json}
use Rattle.json_trees.specs.DataCode.{data_code}

-- the members go in one after another, so the last value of a name stays
abbrev pub put_all : List (List ℕ × Data) → Members → Members
put_all [] found = found
put_all (m ∷ ms) found = put_all ms (put m.0 m.1 found)

-- each member's value as `serde_json` reads it
abbrev pub of_pairs : json.Members → Option (List (List ℕ × Data))
of_pairs json.no_members = Some []
of_pairs (json.member k j ms) = option_and_then (λ d. option_map (λ rest. (k, d) ∷ rest) (of_pairs ms)) (of_json j)

abbrev pub members_code : Coded (List (List ℕ × Data))
members_code = coded_list (coded× (coded_list coded_ℕ) data_code)

-- the value of the last member of that name, and else what was found before
abbrev pub last_named : List ℕ → Option Data → List (List ℕ × Data) → Option Data
last_named name found [] = found
last_named name found (m ∷ ms) = last_named name (cond (bytes_eq m.0 name) (Some m.1) found) ms
