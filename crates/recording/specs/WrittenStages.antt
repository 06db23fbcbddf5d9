-- The JSON values of stages and recordings.
use Rattle.std.specs.Prelude.{◌≡◌, ℕ, List, [], ◌∷◌, codes, IsTrue, Option, Some, None, option_map, All, IfSome, FitsSigned, Ok}
use Rattle.std.specs.Int.{w64}
use Rattle.serde_json.specs.Data.{Data, null, number, string, array, object, Items, no_items, item, Members, no_members, put, unsigned}
use Rattle.serde_json.specs.Find.{of_integer}
use Rattle.act_expr.specs.ExceptionName.{is_exception_name}
use Rattle.act_expr.specs.declared.outcome.Value.{Value}
use Rattle.act_expr.specs.declared.outcome.Value.TheVariants.{Null, Num as Long}
use Rattle.act_expr.specs.declared.outcome.Outcome.{Outcome}
use Rattle.act_expr.specs.declared.outcome.Outcome.TheVariants as outcome
use Rattle.act_expr.specs.declared.outcome.Mode.{Mode}
use Rattle.act_expr.specs.declared.outcome.Mode.TheVariants.{Computed, Literal}
use Rattle.stage_graph.specs.Texts.{op_text}
use Rattle.stage_graph.specs.declared.op.Op.{Op}
use Rattle.stage_graph.specs.declared.op.Op.TheVariants.{Completed, Failed}
use Rattle.stage_graph.specs.declared.end.End.{End}
use Rattle.stage_graph.specs.declared.end.Act.{Act}
use Rattle.stage_graph.specs.declared.end.Act.TheVariants.{Complete, CompleteExceptionally, Cancel, OrTimeout, CompleteOnTimeout}
use Rattle.stage_graph.specs.declared.stage.Spec.{Spec}
use Rattle.recording.specs.RecordingOf.{recording_of}
use Rattle.recording.specs.Written.{written, IsWellFormed}
use Rattle.recording.specs.declared.recording.Recording.{Recording}
use Rattle.recording.specs.declared.stage.FormNumber.{FormNumber}
use Rattle.recording.specs.declared.stage.FormNumber.TheVariants.{One, Two}

-- ---- objects, arrays and numbers

-- the members, followed by one of this name
abbrev pub with_member : List ℕ → Option Data → Members → Members
with_member name None members = members
with_member name (Some d) members = put name d members

-- members by their names; one without a value is omitted
unfoldable pub members_of : List (List ℕ × Option Data) → Members
members_of [] = no_members
members_of (row ∷ rows) = with_member row.0 row.1 (members_of rows)

abbrev pub object_of : List (List ℕ × Option Data) → Data
object_of rows = object (members_of rows)

-- a member with a value
abbrev pub row : List ℕ → Data → List ℕ × Option Data
row name d = (name, Some d)

abbrev pub items_of : {A : Type 0} → (A → Data) → List A → Items
items_of write [] = no_items
items_of write (a ∷ rest) = item (write a) (items_of write rest)

abbrev pub array_of : {A : Type 0} → (A → Data) → List A → Data
array_of write list = array (items_of write list)

abbrev pub count : ℕ → Data
count n = number (unsigned n)

-- null stands for none
abbrev pub null_or : {A : Type 0} → (A → Data) → Option A → Data
null_or write None = null
null_or write (Some a) = write a

-- ---- outcomes and ends

abbrev pub written_value : Value → Data
written_value Null = null
written_value (Long z) = number (of_integer z)

abbrev pub written_outcome : Outcome → Data
written_outcome (outcome.Value value) = object_of (row (codes "value") (written_value value) ∷ [])
written_outcome (outcome.Bare name) = object_of (row (codes "bare") (string name) ∷ [])
written_outcome (outcome.Wrapped name) = object_of (row (codes "wrapped") (string name) ∷ [])

abbrev pub act_rows : Act → List (List ℕ × Option Data)
act_rows (Complete value) = row (codes "do") (string (codes "complete")) ∷ row (codes "value") (written_value value) ∷ []
act_rows (CompleteExceptionally name) = row (codes "do") (string (codes "completeExceptionally")) ∷ row (codes "throws") (string name) ∷ []
act_rows Cancel = row (codes "do") (string (codes "cancel")) ∷ []
act_rows (OrTimeout delay) = row (codes "do") (string (codes "orTimeout")) ∷ row (codes "delay") (count delay) ∷ []
act_rows (CompleteOnTimeout delay value) =
    row (codes "do") (string (codes "completeOnTimeout")) ∷ row (codes "delay") (count delay) ∷ row (codes "value") (written_value value) ∷ []

abbrev pub written_end : End → Data
written_end end = object_of (row (codes "at") (count end.at) ∷ act_rows end.act)

-- ---- stages and recordings

-- the value of a completed stage, and the exception of a failed one
abbrev pub value_of : Op → Option Data
value_of (Completed value) = Some (written_value value)
value_of others = None

abbrev pub throws_of : Op → Option Data
throws_of (Failed name) = Some (string name)
throws_of others = None

-- the value, where the form is the one that has it
abbrev pub in_form : FormNumber → FormNumber → Data → Option Data
in_form One One d = Some d
in_form Two Two d = Some d
in_form own form d = None

abbrev pub stage_rows : FormNumber → Spec → List (List ℕ × Option Data)
stage_rows form stage =
    row (codes "name") (string stage.name)
    ∷ row (codes "op") (string (op_text stage.op))
    ∷ (codes "value", value_of stage.op)
    ∷ (codes "throws", throws_of stage.op)
    ∷ row (codes "sources") (array_of string stage.sources)
    ∷ row (codes "inner") (array_of string stage.inner)
    ∷ row (codes "created") (count stage.created)
    ∷ (codes "takes", in_form One form (count stage.runs))
    ∷ (codes "queued", in_form Two form (count stage.queued))
    ∷ (codes "runs", in_form Two form (count stage.runs))
    ∷ (codes "action", option_map written stage.action)
    ∷ row (codes "pinResult") (null_or written_outcome stage.pin_result)
    ∷ row (codes "pinMoment") (null_or count stage.pin_moment)
    ∷ row (codes "ends") (array_of written_end stage.ends)
    ∷ []

abbrev pub written_stage : FormNumber → Spec → Data
written_stage form stage = object_of (stage_rows form stage)

abbrev pub mode_text : Mode → List ℕ
mode_text Computed = codes "computed"
mode_text Literal = codes "literal"

abbrev pub form_number : FormNumber → ℕ
form_number One = 1
form_number Two = 2

abbrev pub recording_rows : FormNumber → Recording → List (List ℕ × Option Data)
recording_rows form recording =
    row (codes "form") (count (form_number form))
    ∷ row (codes "wrap") (string (mode_text recording.mode))
    ∷ row (codes "stages") (array_of (written_stage form) recording.stages)
    ∷ []

abbrev pub written_recording : FormNumber → Recording → Data
written_recording form recording = object_of (recording_rows form recording)

-- ---- which recordings can be written: values that are longs, exceptions with exception names, and in form 1 stages that are never queued

abbrev pub IsValue : Value → Type 0
IsValue Null = Unit {0}
IsValue (Long z) = FitsSigned w64 z

abbrev pub IsOutcome : Outcome → Type 0
IsOutcome (outcome.Value value) = IsValue value
IsOutcome (outcome.Bare name) = IsTrue (is_exception_name name)
IsOutcome (outcome.Wrapped name) = IsTrue (is_exception_name name)

abbrev pub IsAct : Act → Type 0
IsAct (Complete value) = IsValue value
IsAct (CompleteExceptionally name) = IsTrue (is_exception_name name)
IsAct Cancel = Unit {0}
IsAct (OrTimeout delay) = Unit {0}
IsAct (CompleteOnTimeout delay value) = IsValue value

abbrev pub AreEnds : List End → Type 0
AreEnds ends = All (λ end. IsAct end.act) ends

abbrev pub IsOp : Op → Type 0
IsOp (Completed value) = IsValue value
IsOp (Failed name) = IsTrue (is_exception_name name)
IsOp others = Unit {0}

abbrev pub HasTimes : FormNumber → Spec → Type 0
HasTimes One stage = stage.queued ≡ 0
HasTimes Two stage = Unit {0}

pub record IsStage (form : FormNumber) (stage : Spec) : Type 0 where
  pub op : IsOp stage.op
  pub times : HasTimes form stage
  pub action : IfSome stage.action IsWellFormed
  pub pin_result : IfSome stage.pin_result IsOutcome
  pub ends : AreEnds stage.ends

-- each recording can be read back from its JSON value, in either form
abbrev pub EachRecordingIsReadBack : Type 0
EachRecordingIsReadBack =
    (form : FormNumber) (recording : Recording) → All (IsStage form) recording.stages → recording_of (written_recording form recording) ≡ Ok recording
