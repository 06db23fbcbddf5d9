-- Objects of JSON by their members.
use Rattle.std.specs.Prelude.{ℕ, List, [], ◌∷◌}
use Rattle.serde_json.specs.Data as tree
use Rattle.serde_json.specs.Data.{Data, number, unsigned, Members, no_members, put}

-- values by the names that they have as members of an object
abbrev pub NamedValues : Type 0
NamedValues = List (List ℕ × Data)

-- the members, with these as well
abbrev pub with : Members → NamedValues → Members
with members [] = members
with members (named ∷ others) = with (put named.0 named.1 members) others

-- the object of these members
abbrev pub object : NamedValues → Data
object named = tree.object (with no_members named)

abbrev pub count_json : ℕ → Data
count_json count = number (unsigned count)
