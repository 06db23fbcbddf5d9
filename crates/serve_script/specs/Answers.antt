-- The answers to a script, in the form that is asked for.
use Rattle.std.specs.Prelude.{◌≡◌, ℕ, ◌+◌, ◌-◌, ◌^◌, Bool, false, List, [], ◌∷◌, ◌++◌, length, Option, Some, None, slice_get, Result, Ok, Err}
use Rattle.std.specs.Option.{option_map, option_and_then}
use Rattle.std.specs.Io.KnownBytes.{Appends}
use Rattle.stage_graph.specs.Plain.{PlainGraph, place_named}
use Rattle.stage_graph.specs.declared.edit.Edit.{Edit}
use Rattle.stage_graph.specs.declared.stage.Stage.{Stage}
use Rattle.version_store.specs.Plain.{PlainVersion, opening_version}
use Rattle.report_rows.specs.declared.comparison.Comparison.{Comparison}
use Rattle.report_rows.specs.declared.comparison.Comparison.TheVariants as comparison
use Rattle.report_rows.specs.declared.what.What.{What}
use Rattle.report_rows.specs.declared.what.What.TheVariants as what
use Rattle.report_rows.specs.Swept.{plain_sweep}
use Rattle.report_form.specs.Forms.{form_of}
use Rattle.report_form.specs.Told.{comparison_told, report_told, sweep_told}
use Rattle.report_form.specs.declared.form.Form.{Form}
use Rattle.report_form.specs.declared.form.Format.{Format}
use Rattle.recording.specs.StepOf.{step_of}
use Rattle.recording.specs.declared.fault.Fault.{Fault}
use Rattle.recording.specs.declared.fault.Fault.TheVariants.{TooLong}
use Rattle.recording.specs.declared.step.Asked.{Asked}
use Rattle.recording.specs.declared.step.Asked.TheVariants as asked
use Rattle.recording.specs.declared.step.Subject.{Subject}
use Rattle.recording.specs.declared.step.Subject.TheVariants as subject
use Rattle.recording.specs.declared.step.Step.{Step}
use Rattle.recording.specs.declared.step.Step.TheVariants.{Open, Head, Undo, Close, Change, Report}
use Rattle.script_lines.specs.Lines.{ScriptLine, kept, too_long, lines_of}
use Rattle.session_core.specs.Machine.{State, Booked, opening, step}
use Rattle.session_core.specs.declared.event.Event.{Event}
use Rattle.session_core.specs.declared.event.Event.TheVariants as event
use Rattle.session_core.specs.declared.event.Reply.{Reply}
use Rattle.session_core.specs.declared.event.Reply.TheVariants as replied
use Rattle.serve_script.specs.Replies.{base_in}
use Rattle.serve_script.specs.Told.{fault_told, no_stage_told, no_version_told, recording_told, reply_told}

-- what is written in answer, and the state after it
abbrev pub Answered : Type 0
Answered = List ℕ × State

abbrev pub answered : List ℕ → State → Answered
answered text s = (text, s)

-- ---- events

-- the reply that is told, if the machine has one
abbrev pub told : Form → State → Event → Bool → Booked → Answered
told form s event listed None = ([], s)
told form s event listed (Some booked) = (reply_told form (base_in booked.1 event) event listed booked.0, booked.1)

abbrev pub answer_event : Form → State → Event → Bool → Answered
answer_event form s event listed = told form s event listed (step s event)

-- edits of the version at which the session stands; where no session stands there, the refusal is told
abbrev pub on_head : Form → ℕ → List Edit → Bool → State → Reply → Answered
on_head form session edits listed t (replied.At base) = answer_event form t (event.Commit session base edits) listed
on_head form session edits listed t reply = (reply_told form None (event.Head session) listed reply, t)

abbrev pub after_head : Form → ℕ → List Edit → Bool → State → Booked → Answered
after_head form session edits listed s None = ([], s)
after_head form session edits listed s (Some booked) = on_head form session edits listed booked.1 booked.0

abbrev pub answer_head : Form → State → ℕ → List Edit → Bool → Answered
answer_head form s session edits listed = after_head form session edits listed s (step s (event.Head session))

-- edits of a version, or of the session's head
abbrev pub answer_change : Form → State → ℕ → Option ℕ → List Edit → Bool → Answered
answer_change form s session None edits listed = answer_head form s session edits listed
answer_change form s session (Some base) edits listed = answer_event form s (event.Commit session base edits) listed

-- ---- reports

-- the requested report of one version; none for a stage that is not there, and none where the report is a sweep, a comparison or a recording
abbrev pub what_asked : List (Option Stage) → Asked → Option What
what_asked places asked.All = Some what.All
what_asked places (asked.One name) = option_map what.One (place_named places name)
what_asked places (asked.Blame name) = option_map what.Blame (place_named places name)
what_asked places (asked.Path name) = option_map what.Path (place_named places name)
what_asked places (asked.Sweep name) = None
what_asked places (asked.Changes None) = Some what.Changes
what_asked places (asked.Changes (Some number)) = None
what_asked places (asked.Drift None) = Some what.Drift
what_asked places (asked.Drift (Some number)) = None
what_asked places asked.Times = Some what.Times
what_asked places asked.Recording = None

abbrev pub or_no_stage : Form → Option (List ℕ) → List ℕ
or_no_stage form None = no_stage_told form
or_no_stage form (Some report) = report

-- the number of the version that a report compares with
abbrev pub against_in : Asked → Option ℕ
against_in (asked.Changes against) = against
against_in (asked.Drift against) = against
against_in others = None

abbrev pub told_asked : Form → PlainVersion → Asked → List ℕ
told_asked form version asked = or_no_stage form (option_and_then (report_told form version) (what_asked version.graph.places asked))

-- all trials of the stage of a name
abbrev pub swept_asked : Form → PlainVersion → List ℕ → List ℕ
swept_asked form version name = or_no_stage form (option_and_then (λ place. sweep_told form version place plain_sweep) (place_named version.graph.places name))

-- a comparison with another version, where that one is there
abbrev pub compared_asked : Form → Comparison → PlainVersion → Option PlainVersion → List ℕ
compared_asked form comparison version None = no_version_told form
compared_asked form comparison version (Some against) = comparison_told form comparison version against

-- the report of a version that is asked for; `against` is the version of the number that it compares with
abbrev pub report_asked : Form → PlainVersion → Option PlainVersion → Asked → List ℕ
report_asked form version against asked.All = told_asked form version asked.All
report_asked form version against (asked.One name) = told_asked form version (asked.One name)
report_asked form version against (asked.Blame name) = told_asked form version (asked.Blame name)
report_asked form version against (asked.Path name) = told_asked form version (asked.Path name)
report_asked form version against (asked.Sweep name) = swept_asked form version name
report_asked form version against (asked.Changes None) = told_asked form version (asked.Changes None)
report_asked form version against (asked.Changes (Some number)) = compared_asked form comparison.Changes version against
report_asked form version against (asked.Drift None) = told_asked form version (asked.Drift None)
report_asked form version against (asked.Drift (Some number)) = compared_asked form comparison.Drift version against
report_asked form version against asked.Times = told_asked form version asked.Times
report_asked form version against asked.Recording = recording_told form version

abbrev pub report_of : Form → Option PlainVersion → Option PlainVersion → Asked → List ℕ
report_of form None against asked = no_version_told form
report_of form (Some version) against asked = report_asked form version against asked

-- the report of the version of a number among these
abbrev pub report_among : Form → List PlainVersion → ℕ → Asked → List ℕ
report_among form versions number asked = report_of form (slice_get versions number) (option_and_then (slice_get versions) (against_in asked)) asked

-- a report of the version at which the session stands; where no session stands there, the refusal is told
abbrev pub on_stand : Form → ℕ → Asked → State → Reply → Answered
on_stand form session asked t (replied.At version) = (report_among form t.versions version asked, t)
on_stand form session asked t reply = (reply_told form None (event.Head session) false reply, t)

abbrev pub after_stand : Form → ℕ → Asked → State → Booked → Answered
after_stand form session asked s None = ([], s)
after_stand form session asked s (Some booked) = on_stand form session asked booked.1 booked.0

abbrev pub answer_stand : Form → State → ℕ → Asked → Answered
answer_stand form s session asked = after_stand form session asked s (step s (event.Head session))

abbrev pub answer_report : Form → State → Subject → Asked → Answered
answer_report form s (subject.Version version) asked = (report_among form s.versions version asked, s)
answer_report form s (subject.Head session) asked = answer_stand form s session asked

-- ---- lines

abbrev pub answer_step : Form → State → Step → Answered
answer_step form s (Open session version) = answer_event form s (event.Open session version) false
answer_step form s (Head session) = answer_event form s (event.Head session) false
answer_step form s (Undo session) = answer_event form s (event.Undo session) false
answer_step form s (Close session) = answer_event form s (event.Close session) false
answer_step form s (Change session base edits listed) = answer_change form s session base edits listed
answer_step form s (Report subject asked) = answer_report form s subject asked

-- the step that a line names is done; a fault in it is told
abbrev pub answer_named : Form → State → Result Step Fault → Answered
answer_named form s (Ok step) = answer_step form s step
answer_named form s (Err fault) = (fault_told form fault, s)

-- nothing is told of a blank line
abbrev pub answer_line : Form → State → Option ScriptLine → Answered
answer_line form s None = ([], s)
answer_line form s (Some (kept bytes)) = answer_named form s (step_of bytes)
answer_line form s (Some too_long) = (fault_told form TooLong, s)

-- line after line, from the one of this number on, each from the state that the one before left
abbrev pub answers_from : Format → ℕ → State → List (Option ScriptLine) → List ℕ
answers_from format number s [] = []
answers_from format number s (line ∷ lines) =
    let answer = answer_line (form_of format (Some number)) s line in
    answer.0 ++ answers_from format (number + 1) answer.1 lines

-- version 0 has the graph, and there may be 65,536 versions
abbrev pub opening_state : PlainGraph → State
opening_state graph = opening (opening_version graph) (2 ^ 16)

-- the first line is line 1
abbrev pub answers_to : Format → PlainGraph → List (Option ScriptLine) → List ℕ
answers_to format graph lines = answers_from format 1 (opening_state graph) lines

-- the answers to a script, for a recording with this graph
abbrev pub answers : Format → PlainGraph → List ℕ → List ℕ
answers format graph bytes = answers_to format graph (lines_of bytes)

-- ---- what a script leaves

-- the state after these lines, from the one of this number on
abbrev pub played_from : Format → ℕ → State → List (Option ScriptLine) → State
played_from format number s [] = s
played_from format number s (line ∷ lines) = played_from format (number + 1) (answer_line (form_of format (Some number)) s line).1 lines

-- the state after a script, for a recording with this graph
abbrev pub played : Format → PlainGraph → List (Option ScriptLine) → State
played format graph lines = played_from format 1 (opening_state graph) lines

-- the version that was made last: the one of the greatest number
abbrev pub last_version : State → Option PlainVersion
last_version s = slice_get s.versions (length s.versions - 1)

-- ---- what a call has done

-- this was written, and this is the state
abbrev pub IsAnswered : Answered → State → Option (List ℕ) → Option (List ℕ) → Type 0
IsAnswered answer t held holds = (t ≡ answer.1) × Appends held holds answer.0
