-- The step of a script that bytes encode, or the first fault in it.
use Rattle.std.specs.Prelude.{ℕ, true, false, ◌||◌, List, [], ◌∷◌, codes, if◌then◌else◌, Option, Some, None, option_map, option_and_then, is_some, Result, Ok, Err}
use Rattle.serde_json.specs.Data.{Data, object, Items, no_items, item}
use Rattle.serde_json.specs.Find.{as_str, as_array}
use Rattle.stage_graph.specs.EditLists.{edit_list}
use Rattle.stage_graph.specs.declared.edit.Edit.{Edit}
use Rattle.stage_graph.specs.declared.edit.Edit.TheVariants as edit
use Rattle.stage_graph.specs.declared.fault.ListSize.{ListSize as ListSizeFault}
use Rattle.stage_graph.specs.declared.stage.Spec.{Spec}
use Rattle.recording.specs.Tables.{beside}
use Rattle.recording.specs.ExpressionOf.{expression_of}
use Rattle.recording.specs.Forms.{count_in, count32_in, names_in, or_null, outcome_in, ends_in}
use Rattle.recording.specs.Members.{then_on, member_of, required, optional}
use Rattle.recording.specs.RecordingOf.{json_or_fault}
use Rattle.recording.specs.StageOf.{spec_of}
use Rattle.recording.specs.declared.fault.Fault.{Fault}
use Rattle.recording.specs.declared.fault.Fault.TheVariants.{Shape, ListSize}
use Rattle.recording.specs.declared.member.Member.{Member}
use Rattle.recording.specs.declared.member.Member.TheVariants as member
use Rattle.recording.specs.declared.stage.FormNumber.{FormNumber}
use Rattle.recording.specs.declared.stage.FormNumber.TheVariants.{One, Two}
use Rattle.recording.specs.declared.edits.EditName.{EditName}
use Rattle.recording.specs.declared.edits.EditName.TheVariants.{PinResult, PinMoment, SetTakes, SetTimes, SetAction, SetEnds, Add, Remove, Rewire}
use Rattle.recording.specs.declared.step.StepName.{StepName}
use Rattle.recording.specs.declared.step.StepName.TheVariants.{Open, Head, Undo, Close, Change, Edits, Report}
use Rattle.recording.specs.declared.step.ReportName.{ReportName}
use Rattle.recording.specs.declared.step.ReportName.TheVariants as report
use Rattle.recording.specs.declared.step.Asked.{Asked}
use Rattle.recording.specs.declared.step.Asked.TheVariants as asked
use Rattle.recording.specs.declared.step.Subject.{Subject}
use Rattle.recording.specs.declared.step.Subject.TheVariants as subject
use Rattle.recording.specs.declared.step.Step.{Step}
use Rattle.recording.specs.declared.step.Step.TheVariants as step

-- ---- one edit

abbrev pub edit_names : List (List ℕ × EditName)
edit_names =
    (codes "pinResult", PinResult) ∷ (codes "pinMoment", PinMoment) ∷ (codes "setTakes", SetTakes) ∷ (codes "setTimes", SetTimes)
    ∷ (codes "setAction", SetAction) ∷ (codes "setEnds", SetEnds) ∷ (codes "add", Add) ∷ (codes "remove", Remove) ∷ (codes "rewire", Rewire) ∷ []

abbrev pub edit_name_in : Data → Option EditName
edit_name_in d = option_and_then (beside edit_names) (as_str d)

-- a new stage has the members of form 2 if `queued` or `runs` is present, else those of form 1
abbrev pub form_of_new : Data → FormNumber
form_of_new d = if is_some (member_of member.Queued d) || is_some (member_of member.Runs d) then Two else One

abbrev pub new_in : Data → Result Spec Fault
new_in (object ms) = spec_of (form_of_new (object ms)) (object ms)
new_in others = Err (Shape member.New)

abbrev pub stage_member : Data → Result (List ℕ) Fault
stage_member d = required member.Stage as_str d

-- the edit of a name, from the members that come after `session` and `base`
unfoldable pub edit_of : EditName → Data → Result Edit Fault
edit_of PinResult d =
    then_on (stage_member d) (λ stage. then_on (required member.Result (or_null outcome_in) d) (λ result.
    Ok (edit.PinResult stage result)))
edit_of PinMoment d =
    then_on (stage_member d) (λ stage. then_on (required member.At (or_null count_in) d) (λ moment.
    Ok (edit.PinMoment stage moment)))
edit_of SetTakes d =
    then_on (stage_member d) (λ stage. then_on (required member.Takes count_in d) (λ takes.
    Ok (edit.SetTimes stage 0 takes)))
edit_of SetTimes d =
    then_on (stage_member d) (λ stage. then_on (required member.Queued count_in d) (λ queued. then_on (required member.Runs count_in d) (λ runs.
    Ok (edit.SetTimes stage queued runs))))
edit_of SetAction d =
    then_on (stage_member d) (λ stage. then_on (required member.Action expression_of d) (λ action.
    Ok (edit.SetAction stage action)))
edit_of SetEnds d =
    then_on (stage_member d) (λ stage. then_on (required member.Ends ends_in d) (λ ends.
    Ok (edit.SetEnds stage ends)))
edit_of Add d =
    then_on (required member.New Some d) (λ new. then_on (new_in new) (λ spec.
    Ok (edit.Add spec)))
edit_of Remove d =
    then_on (stage_member d) (λ stage.
    Ok (edit.Remove stage))
edit_of Rewire d =
    then_on (stage_member d) (λ stage. then_on (required member.Sources names_in d) (λ sources. then_on (required member.Inner names_in d) (λ inner.
    Ok (edit.Rewire stage sources inner))))

-- ---- a list of edits

abbrev pub listed_edit : Data → Result Edit Fault
listed_edit (object ms) = then_on (required member.Do edit_name_in (object ms)) (λ name. edit_of name (object ms))
listed_edit others = Err (Shape member.Edits)

-- edit by edit, in list order
abbrev pub edits_of : Items → Result (List Edit) Fault
edits_of no_items = Ok []
edits_of (item d ds) = then_on (listed_edit d) (λ edit. then_on (edits_of ds) (λ edits. Ok (edit ∷ edits)))

abbrev pub with_list_size : Result (List Edit) ListSizeFault → Result (List Edit) Fault
with_list_size (Ok edits) = Ok edits
with_list_size (Err fault) = Err ListSize

-- 1 to 64 edits; their number is checked after all of them
abbrev pub edits_member : Data → Result (List Edit) Fault
edits_member d = then_on (then_on (required member.Edits as_array d) edits_of) (λ edits. with_list_size (edit_list edits))

-- ---- the steps

abbrev pub step_names : List (List ℕ × StepName)
step_names =
    (codes "open", Open) ∷ (codes "head", Head) ∷ (codes "undo", Undo) ∷ (codes "close", Close)
    ∷ (codes "edits", Edits) ∷ (codes "report", Report) ∷ []

abbrev pub or_edit : Option StepName → Option EditName → Option StepName
or_edit (Some name) edit = Some name
or_edit None edit = option_map Change edit

abbrev pub step_name_of : List ℕ → Option StepName
step_name_of text = or_edit (beside step_names text) (beside edit_names text)

abbrev pub step_name_in : Data → Option StepName
step_name_in d = option_and_then step_name_of (as_str d)

abbrev pub session_member : Data → Result ℕ Fault
session_member d = required member.Session count32_in d

abbrev pub version_member : Data → Result ℕ Fault
version_member d = required member.Version count32_in d

abbrev pub optional_count32 : Member → Data → Result (Option ℕ) Fault
optional_count32 m d = optional m None (λ count. option_map Some (count32_in count)) d

abbrev pub base_member : Data → Result (Option ℕ) Fault
base_member d = optional_count32 member.Base d

abbrev pub against_member : Data → Result (Option ℕ) Fault
against_member d = optional_count32 member.Against d

-- the version at which a session stands, where a session is named; a version beside it is a fault
abbrev pub subject_in : Data → Result Subject Fault
subject_in d =
    if is_some (member_of member.Session d) then
    (if is_some (member_of member.Version d) then Err (Shape member.Session) else then_on (session_member d) (λ session. Ok (subject.Head session)))
    else then_on (version_member d) (λ version. Ok (subject.Version version))

abbrev pub report_names : List (List ℕ × ReportName)
report_names =
    (codes "all", report.All) ∷ (codes "one", report.One) ∷ (codes "blame", report.Blame) ∷ (codes "path", report.Path)
    ∷ (codes "sweep", report.Sweep) ∷ (codes "changes", report.Changes) ∷ (codes "drift", report.Drift) ∷ (codes "times", report.Times)
    ∷ (codes "recording", report.Recording) ∷ []

abbrev pub report_name_in : Data → Option ReportName
report_name_in d = option_and_then (beside report_names) (as_str d)

-- `stage` is read for the four reports of one stage, `against` for the two that compare
abbrev pub asked_of : ReportName → Data → Result Asked Fault
asked_of report.One d = then_on (stage_member d) (λ stage. Ok (asked.One stage))
asked_of report.Blame d = then_on (stage_member d) (λ stage. Ok (asked.Blame stage))
asked_of report.Path d = then_on (stage_member d) (λ stage. Ok (asked.Path stage))
asked_of report.Sweep d = then_on (stage_member d) (λ stage. Ok (asked.Sweep stage))
asked_of report.All d = Ok asked.All
asked_of report.Changes d = then_on (against_member d) (λ against. Ok (asked.Changes against))
asked_of report.Drift d = then_on (against_member d) (λ against. Ok (asked.Drift against))
asked_of report.Times d = Ok asked.Times
asked_of report.Recording d = Ok asked.Recording

unfoldable pub step_with : StepName → Data → Result Step Fault
step_with Open d =
    then_on (session_member d) (λ session. then_on (version_member d) (λ version.
    Ok (step.Open session version)))
step_with Head d = then_on (session_member d) (λ session. Ok (step.Head session))
step_with Undo d = then_on (session_member d) (λ session. Ok (step.Undo session))
step_with Close d = then_on (session_member d) (λ session. Ok (step.Close session))
step_with (Change name) d =
    then_on (session_member d) (λ session. then_on (base_member d) (λ base. then_on (edit_of name d) (λ edit.
    Ok (step.Change session base (edit ∷ []) false))))
step_with Edits d =
    then_on (session_member d) (λ session. then_on (base_member d) (λ base. then_on (edits_member d) (λ edits.
    Ok (step.Change session base edits true))))
step_with Report d =
    then_on (subject_in d) (λ subject. then_on (required member.What report_name_in d) (λ name. then_on (asked_of name d) (λ asked.
    Ok (step.Report subject asked))))

abbrev pub step_in : Data → Result Step Fault
step_in (object ms) = then_on (required member.Do step_name_in (object ms)) (λ name. step_with name (object ms))
step_in others = Err (Shape member.Step)

-- the step that these bytes encode, or the first fault
abbrev pub step_of : List ℕ → Result Step Fault
step_of bytes = then_on (json_or_fault bytes) step_in
