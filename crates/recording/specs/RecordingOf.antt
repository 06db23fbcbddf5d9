-- The recording that bytes encode, or the first fault in it.
use Rattle.std.specs.Prelude.{ℕ, ℤ, pos, List, [], ◌∷◌, length, codes, nat_lt, if◌then◌else◌, Option, Some, None, option_and_then, Result, Ok, Err}
use Rattle.std.specs.Option.{ok_or}
use Rattle.std.specs.Str.{is_utf8}
use Rattle.serde_json.specs.Data.{Data, object, Items, no_items, item}
use Rattle.serde_json.specs.Find.{as_i64, as_number, as_str, as_array}
use Rattle.serde_json.specs.Read.{read}
use Rattle.act_expr.specs.Meaning.{int_eq}
use Rattle.act_expr.specs.declared.outcome.Mode.{Mode}
use Rattle.act_expr.specs.declared.outcome.Mode.TheVariants.{Computed, Literal}
use Rattle.stage_graph.specs.Loading.{loaded}
use Rattle.stage_graph.specs.Plain.{PlainGraph}
use Rattle.stage_graph.specs.declared.fault.Refused.{Refused as StageRefused}
use Rattle.stage_graph.specs.declared.stage.Spec.{Spec}
use Rattle.recording.specs.Tables.{beside}
use Rattle.recording.specs.Members.{then_on, required, optional}
use Rattle.recording.specs.StageOf.{spec_of}
use Rattle.recording.specs.declared.fault.Fault.{Fault}
use Rattle.recording.specs.declared.fault.Fault.TheVariants.{TooLong, Json, Shape, Refused}
use Rattle.recording.specs.declared.member.Member.TheVariants as member
use Rattle.recording.specs.declared.recording.Recording.{Recording}
use Rattle.recording.specs.declared.stage.FormNumber.{FormNumber}
use Rattle.recording.specs.declared.stage.FormNumber.TheVariants.{One, Two}

abbrev pub form_of_number : ℤ → Option FormNumber
form_of_number z =
    if int_eq z (pos 1) then Some One else
    (if int_eq z (pos 2) then Some Two else None)

abbrev pub form_in : Data → Option FormNumber
form_in d = option_and_then form_of_number (option_and_then as_i64 (as_number d))

abbrev pub mode_names : List (List ℕ × Mode)
mode_names = (codes "computed", Computed) ∷ (codes "literal", Literal) ∷ []

abbrev pub mode_in : Data → Option Mode
mode_in d = option_and_then (beside mode_names) (as_str d)

abbrev pub stage_of : FormNumber → Data → Result Spec Fault
stage_of form (object ms) = spec_of form (object ms)
stage_of form others = Err (Shape member.Stages)

-- stage by stage, in list order
abbrev pub stages_of : FormNumber → Items → Result (List Spec) Fault
stages_of form no_items = Ok []
stages_of form (item d ds) =
    then_on (stage_of form d) (λ stage.
    then_on (stages_of form ds) (λ stages.
    Ok (stage ∷ stages)))

unfoldable pub stages_member : FormNumber → Data → Result (List Spec) Fault
stages_member form d = then_on (required member.Stages as_array d) (stages_of form)

abbrev pub recording_of : Data → Result Recording Fault
recording_of (object ms) =
    then_on (optional member.Form One form_in (object ms)) (λ form.
    then_on (optional member.Wrap Computed mode_in (object ms)) (λ mode.
    then_on (stages_member form (object ms)) (λ stages.
    Ok (record { mode = mode; stages = stages }))))
recording_of others = Err (Shape member.Recording)

-- the JSON value of these bytes, by serde_json's reading
abbrev pub json_of : List ℕ → Option Data
json_of bytes = if is_utf8 bytes then read bytes else None

abbrev pub json_or_fault : List ℕ → Result Data Fault
json_or_fault bytes = ok_or (json_of bytes) Json

-- the most bytes that a recording may have
abbrev pub longest : ℕ
longest = 67_108_864

-- the recorded stages that these bytes encode, or the first fault of shape
abbrev pub recorded : List ℕ → Result Recording Fault
recorded bytes = if nat_lt longest (length bytes) then Err TooLong else then_on (json_or_fault bytes) recording_of

-- the graph that the stages make, or their refusal as a fault of reading
abbrev pub as_read : Result PlainGraph StageRefused → Result PlainGraph Fault
as_read (Ok graph) = Ok graph
as_read (Err refused) = Err (Refused refused)

abbrev pub graph_of : Recording → Result PlainGraph Fault
graph_of recording = as_read (loaded recording.mode recording.stages)

-- the graph that these bytes encode, which may have a cycle, or the first fault: those of shape come before those of the graph
abbrev pub named : List ℕ → Result PlainGraph Fault
named bytes = then_on (recorded bytes) graph_of
