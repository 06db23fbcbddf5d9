-- The tokens that stand in a line for data, without the data.
use Rattle.std.specs.Prelude.{◌≡◌, ℕ, List, [], ◌∷◌, ◌++◌, Option, None, Some, codes}
use Rattle.std.specs.List.{AllByRecursion, flat_map}
use Rattle.json.specs.Token.{Token, key}
use Rattle.json.specs.Tree.{json_tokens}
use Rattle.serde_json.specs.Data.{Data, Members, no_members, member}
use Rattle.serde_json.specs.Read.{of_json}
use Rattle.serde_json.specs.Written.{outline}
use Rattle.report_json.specs.Json.{NamedValues, count}

abbrev pub data_tokens : Data → List Token
data_tokens d = json_tokens (outline d)

-- the data is what a reader makes of its JSON
abbrev pub ReadsBack : Data → Type 0
ReadsBack d = of_json (outline d) ≡ Some d

-- data was added to a line, from which it reads back
pub record Tells (d : Data) (old new : List Token) : Type 0 where
  pub tokens : new ≡ old ++ data_tokens d
  pub reads : ReadsBack d

-- the same of data under its name
pub record TellsMember (name : List ℕ) (d : Data) (old new : List Token) : Type 0 where
  pub tokens : new ≡ old ++ key name ∷ data_tokens d
  pub reads : ReadsBack d

-- the tokens of data under their names, in this order
abbrev pub rows_tokens : NamedValues → List Token
rows_tokens rows = flat_map (λ row. key row.0 ∷ data_tokens row.1) rows

-- these were added to a line
pub record TellsRows (rows : NamedValues) (old new : List Token) : Type 0 where
  pub tokens : new ≡ old ++ rows_tokens rows
  pub reads : AllByRecursion (λ row. ReadsBack row.1) rows

-- members in this order
abbrev pub members_in : NamedValues → Members
members_in [] = no_members
members_in (row ∷ rows) = member row.0 row.1 (members_in rows)

-- items were added to a line, one after another
pub record TellsItems (items : List Data) (old new : List Token) : Type 0 where
  pub tokens : new ≡ old ++ flat_map data_tokens items
  pub reads : AllByRecursion ReadsBack items

-- the number of the line that is answered, where there is one
abbrev pub line_rows : Option ℕ → NamedValues
line_rows None = []
line_rows (Some line) = (codes "line", count line) ∷ []
