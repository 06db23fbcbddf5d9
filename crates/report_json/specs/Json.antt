-- The parts of a JSON value, and the line that one is written as.
use Rattle.std.specs.Prelude.{ℕ, List, [], ◌∷◌, ◌++◌, Option, None, Some, codes, unwrap_or}
use Rattle.std.specs.Option.{option_map}
use Rattle.act_expr.specs.declared.outcome.Value.{Value}
use Rattle.act_expr.specs.declared.outcome.Value.TheVariants.{Null, Num}
use Rattle.act_expr.specs.declared.outcome.Outcome.{Outcome}
use Rattle.act_expr.specs.declared.outcome.Outcome.TheVariants as outcome
use Rattle.serde_json.specs.Data as tree
use Rattle.serde_json.specs.Data.{Data, null, number, string, array, unsigned, Members, no_members, put}
use Rattle.serde_json.specs.Find.{of_integer}
use Rattle.serde_json.specs.View.{items_of}
use Rattle.serde_json.specs.Written.{compact_text}
use Rattle.text_io.specs.Writes.{line_end}

abbrev pub text : List ℕ → Data
text bytes = string bytes

abbrev pub count : ℕ → Data
count amount = number (unsigned amount)

-- null where there is none
abbrev pub optional : {A : Type 0} → (A → Data) → Option A → Data
optional form None = null
optional form (Some content) = form content

abbrev pub list : List Data → Data
list items = array (items_of items)

-- values by the names that they have as members of an object
abbrev pub NamedValues : Type 0
NamedValues = List (List ℕ × Data)

-- the members, with these as well
abbrev pub with : Members → NamedValues → Members
with members [] = members
with members (named ∷ others) = with (put named.0 named.1 members) others

-- the object of these members
abbrev pub object : NamedValues → Data
object named = tree.object (with no_members named)

-- a number or null
abbrev pub value_json : Value → Data
value_json Null = null
value_json (Num integer) = number (of_integer integer)

-- an outcome as in recordings
abbrev pub outcome_json : Outcome → Data
outcome_json (outcome.Value value) = object ((codes "value", value_json value) ∷ [])
outcome_json (outcome.Bare name) = object ((codes "bare", text name) ∷ [])
outcome_json (outcome.Wrapped name) = object ((codes "wrapped", text name) ∷ [])

-- what answers the line of this number of a script, as a member beside the others; None where there is no script
abbrev pub at_line : Option ℕ → Data → Data
at_line (Some line) (tree.object members) = tree.object (put (codes "line") (count line) members)
at_line line answer = answer

-- the value's text, with no space, and the end of a line
abbrev pub line_text : Data → List ℕ
line_text value = compact_text value ++ line_end

-- the text of what answers the script's line of this number
abbrev pub answer_text : Option ℕ → Data → List ℕ
answer_text line answer = line_text (at_line line answer)

-- the same of a report; nothing where there is no report
abbrev pub told : Option ℕ → Option Data → List ℕ
told line report = unwrap_or (option_map (answer_text line) report) []
