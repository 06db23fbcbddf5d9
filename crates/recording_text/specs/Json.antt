-- The JSON of a stage. A member that has its default is left out.
use Rattle.std.specs.Prelude.{ℕ, List, [], ◌∷◌, ◌++◌, codes, nat_lt, if◌then◌else◌, Option, Some, None, option_map}
use Rattle.std.specs.Fmt.{decimal, signed_decimal}
use Rattle.std.specs.List.{flat_map}
use Rattle.json.specs.Json.{Json, null, number, string, array, object, Items, no_items, item, Members, no_members, member}
use Rattle.json.specs.Token.{Token, key}
use Rattle.json.specs.Tree.{json_tokens}
use Rattle.serde_json.specs.Written.{outline}
use Rattle.act_expr.specs.Expression.{Expression}
use Rattle.act_expr.specs.declared.outcome.Mode.{Mode}
use Rattle.act_expr.specs.declared.outcome.Value.{Value}
use Rattle.act_expr.specs.declared.outcome.Value.TheVariants.{Null, Num as Long}
use Rattle.act_expr.specs.declared.outcome.Outcome.{Outcome}
use Rattle.act_expr.specs.declared.outcome.Outcome.TheVariants as outcome
use Rattle.stage_graph.specs.Texts.{op_text}
use Rattle.stage_graph.specs.declared.op.Op.{Op}
use Rattle.stage_graph.specs.declared.op.Op.TheVariants.{Completed, Failed}
use Rattle.stage_graph.specs.declared.end.End.{End}
use Rattle.stage_graph.specs.declared.end.Act.{Act}
use Rattle.stage_graph.specs.declared.end.Act.TheVariants.{Complete, CompleteExceptionally, Cancel, OrTimeout, CompleteOnTimeout}
use Rattle.stage_graph.specs.declared.stage.Spec.{Spec}
use Rattle.recording.specs.Written.{written}
use Rattle.recording.specs.WrittenStages.{mode_text}

-- ---- members

-- a name, and the value that a member of this name has, if there is one
abbrev pub Row : Type 0
Row = List ℕ × Option Json

abbrev pub row : List ℕ → Json → Row
row name value = (name, Some value)

abbrev pub with_row : List ℕ → Option Json → Members → Members
with_row name None members = members
with_row name (Some value) members = member name value members

-- the members that have a value, in order
abbrev pub members_of : List Row → Members
members_of [] = no_members
members_of (row ∷ rows) = with_row row.0 row.1 (members_of rows)

abbrev pub items_of : {A : Type 0} → (A → Json) → List A → Items
items_of write [] = no_items
items_of write (a ∷ rest) = item (write a) (items_of write rest)

-- an array, where there is something to be in it
abbrev pub some_of : {A : Type 0} → (A → Json) → List A → Option Json
some_of write [] = None
some_of write (a ∷ rest) = Some (array (items_of write (a ∷ rest)))

abbrev pub count : ℕ → Json
count n = number (decimal n)

-- a number but for 0
abbrev pub some_count : ℕ → Option Json
some_count n = if nat_lt 0 n then Some (count n) else None

-- ---- values, actions, outcomes and ends

abbrev pub value_json : Value → Json
value_json Null = null
value_json (Long z) = number (signed_decimal z)

-- an action is an array of a word and its operands
abbrev pub action_json : Expression → Json
action_json e = outline (written e)

abbrev pub outcome_row : Outcome → Row
outcome_row (outcome.Value value) = row (codes "value") (value_json value)
outcome_row (outcome.Bare name) = row (codes "bare") (string name)
outcome_row (outcome.Wrapped name) = row (codes "wrapped") (string name)

abbrev pub outcome_json : Outcome → Json
outcome_json outcome = object (members_of (outcome_row outcome ∷ []))

abbrev pub act_rows : Act → List Row
act_rows (Complete value) = row (codes "do") (string (codes "complete")) ∷ row (codes "value") (value_json value) ∷ []
act_rows (CompleteExceptionally name) = row (codes "do") (string (codes "completeExceptionally")) ∷ row (codes "throws") (string name) ∷ []
act_rows Cancel = row (codes "do") (string (codes "cancel")) ∷ []
act_rows (OrTimeout delay) = row (codes "do") (string (codes "orTimeout")) ∷ row (codes "delay") (count delay) ∷ []
act_rows (CompleteOnTimeout delay value) =
    row (codes "do") (string (codes "completeOnTimeout")) ∷ row (codes "delay") (count delay) ∷ row (codes "value") (value_json value) ∷ []

abbrev pub end_json : End → Json
end_json end = object (members_of (row (codes "at") (count end.at) ∷ act_rows end.act))

-- ---- stages

-- the value of a completed stage, and the exception of a failed one
abbrev pub value_of : Op → Option Json
value_of (Completed value) = Some (value_json value)
value_of others = None

abbrev pub throws_of : Op → Option Json
throws_of (Failed name) = Some (string name)
throws_of others = None

abbrev pub op_rows : List ℕ → Op → List Row
op_rows name op = row (codes "name") (string name) ∷ row (codes "op") (string (op_text op)) ∷ (codes "value", value_of op) ∷ (codes "throws", throws_of op) ∷ []

abbrev pub feed_rows : List (List ℕ) → List (List ℕ) → List Row
feed_rows sources inner = (codes "sources", some_of string sources) ∷ (codes "inner", some_of string inner) ∷ []

abbrev pub time_rows : ℕ → ℕ → ℕ → List Row
time_rows created queued runs = (codes "created", some_count created) ∷ (codes "queued", some_count queued) ∷ (codes "runs", some_count runs) ∷ []

abbrev pub outcome_rows : Option Expression → Option Outcome → Option ℕ → List End → List Row
outcome_rows action pin_result pin_moment ends =
    (codes "action", option_map action_json action)
    ∷ (codes "pinResult", option_map outcome_json pin_result)
    ∷ (codes "pinMoment", option_map count pin_moment)
    ∷ (codes "ends", some_of end_json ends)
    ∷ []

abbrev pub stage_rows : Spec → List Row
stage_rows stage =
    op_rows stage.name stage.op ++ feed_rows stage.sources stage.inner ++ time_rows stage.created stage.queued stage.runs
    ++ outcome_rows stage.action stage.pin_result stage.pin_moment stage.ends

unfoldable pub stage_json : Spec → Json
stage_json stage = object (members_of (stage_rows stage))

-- ---- recordings

-- the JSON of a recording
abbrev pub recording_json : Mode → List Spec → Json
recording_json mode stages =
    object (members_of (row (codes "form") (number (codes "2")) ∷ row (codes "wrap") (string (mode_text mode)) ∷ row (codes "stages") (array (items_of stage_json stages)) ∷ []))

-- ---- the tokens of members

abbrev pub row_tokens : Row → List Token
row_tokens (name, None) = []
row_tokens (name, Some value) = key name ∷ json_tokens value

abbrev pub rows_tokens : List Row → List Token
rows_tokens rows = flat_map row_tokens rows

-- the tokens of items, without the closing bracket
abbrev pub list_tokens : {A : Type 0} → (A → Json) → List A → List Token
list_tokens write list = flat_map (λ a. json_tokens (write a)) list
