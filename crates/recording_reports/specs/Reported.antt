-- What the reports of a recording write: of version 0 of the graph that it names.
use Rattle.std.specs.Prelude.{ℕ, ◌≡◌, Bool, false, not, ◌&&◌, if◌then◌else◌, List, [], ◌++◌, Option, None, Some, Result, Ok, Err, unwrap_or}
use Rattle.std.specs.Option.{option_map, option_map_or}
use Rattle.std.specs.Io.KnownBytes.{Appends, Keeps}
use Rattle.text_io.specs.Sink.{AppendsPrefix}
use Rattle.stage_graph.specs.Plain.{PlainGraph, place_named}
use Rattle.recording.specs.Reads.{IsNamed}
use Rattle.recording.specs.RecordingOf.{named}
use Rattle.recording.specs.FaultTexts.{fault_number}
use Rattle.stage_ops.specs.Sources.{is_exceptional}
use Rattle.version_store.specs.Plain.{PlainVersion, opening_version}
use Rattle.version_store.specs.Queries.{state_of}
use Rattle.report_rows.specs.declared.arisen.Arisen.TheVariants as arisen
use Rattle.report_rows.specs.declared.what.What.{What}
use Rattle.report_rows.specs.declared.what.What.TheVariants.{All, One, Blame, Path, Ends, Failures}
use Rattle.report_rows.specs.Said.{has_rows}
use Rattle.report_form.specs.Told.{report_told, rescue_told, slack_told, sweep_told}
use Rattle.report_form.specs.declared.form.Form.{Form}
use Rattle.recording_reports.specs.declared.fault.RecordingFault.{RecordingFault}
use Rattle.recording_reports.specs.declared.fault.RecordingFault.TheVariants.{Refused, NoStage, Write, Memory}
use Rattle.recording_reports.specs.declared.stage.StageReport.{StageReport}
use Rattle.recording_reports.specs.declared.stage.StageReport.TheVariants.{Explanation, Sweep, Slack, Rescue, Failure}
use Rattle.recording_reports.specs.declared.all.WholeReport.{WholeReport}
use Rattle.recording_reports.specs.declared.all.WholeReport.TheVariants as whole

-- which report of a version is asked for
abbrev pub what_of : WholeReport → What
what_of whole.All = All
what_of whole.Ends = Ends
what_of whole.Failures = Failures arisen.Anywhere

-- of the failures: those that the path of the stage at a place has to do with
abbrev pub beside : ℕ → What
beside place = Failures (arisen.Beside place)

abbrev pub told : Form → PlainVersion → What → List ℕ
told form version what = unwrap_or (report_told form version what) []

-- what is asked of all stages
abbrev pub whole_text : Form → WholeReport → PlainVersion → List ℕ
whole_text form asked version = told form version (what_of asked)

-- the same of a graph
abbrev pub whole_of : Form → WholeReport → PlainGraph → Option (List ℕ)
whole_of form asked graph = Some (whole_text form asked (opening_version graph))

-- the stage at the place completed by an exception
abbrev pub is_failed : PlainGraph → ℕ → Bool
is_failed graph place = option_map_or (λ done. is_exceptional done.outcome) (state_of graph place).done false

-- the failures that concern the path of a stage that does not fail, if there are any
abbrev pub handled_text : Form → PlainVersion → ℕ → List ℕ
handled_text form version place =
    if not (is_failed version.graph place) && unwrap_or (has_rows version (beside place)) false then told form version (beside place) else []

-- the reports `one`, `blame` and `path` of the stage at a place, one after the other, and then the failures that its path has to do with, where
-- it does not fail itself; or its sweep; or how much longer stages may run before it completes otherwise;
-- or which changes would have made it complete with a value; or the failure that arose in it
abbrev pub stage_text : Form → StageReport → PlainVersion → ℕ → List ℕ
stage_text form Explanation version place = told form version (One place) ++ told form version (Blame place) ++ told form version (Path place) ++ handled_text form version place
stage_text form (Sweep asked) version place = unwrap_or (sweep_told form version place asked) []
stage_text form (Slack within) version place = unwrap_or (slack_told form version place within) []
stage_text form (Rescue terms) version place = unwrap_or (rescue_told form version place terms) []
stage_text form Failure version place = told form version (Failures (arisen.In place))

-- the same of the stage of a name; none where the graph has no such stage
abbrev pub stage_of : Form → StageReport → List ℕ → PlainGraph → Option (List ℕ)
stage_of form report name graph = option_map (stage_text form report (opening_version graph)) (place_named graph.places name)

-- these bytes are a recording, and this is what is reported of its graph
abbrev pub IsTextOf : List ℕ → (PlainGraph → Option (List ℕ)) → Option (List ℕ) → Type 0
IsTextOf recording of text = (graph : PlainGraph) × IsNamed (Ok graph) (named recording) × (text ≡ of graph)

-- what was written, from what the sink held and holds, by how the call ended
abbrev pub IsReported : List ℕ → (PlainGraph → Option (List ℕ)) → Option (List ℕ) → Option (List ℕ) → Result (Unit {0}) RecordingFault → Type 0
-- the whole report
IsReported recording of old new (Ok done) = (text : List ℕ) × IsTextOf recording of (Some text) × Appends old new text
-- nothing, as the recording is refused, or memory ran out before the report began
IsReported recording of old new (Err (Refused fault)) = IsNamed (Err fault) (named recording) × Keeps old new
-- nothing, as there is nothing to report
IsReported recording of old new (Err NoStage) = IsTextOf recording of None × Keeps old new
-- a part of the report, as a write failed
IsReported recording of old new (Err Write) = (text : List ℕ) × IsTextOf recording of (Some text) × AppendsPrefix old new text
-- a part of the report, as memory ran out while it was written
IsReported recording of old new (Err Memory) = (text : List ℕ) × IsTextOf recording of (Some text) × AppendsPrefix old new text

-- the number by which a fault is printed
abbrev pub recording_number : RecordingFault → ℕ
recording_number (Refused fault) = fault_number fault
recording_number NoStage = 10
recording_number Write = 40
recording_number Memory = 90

-- one where a write failed
abbrev pub failed_writes : Result (Unit {0}) RecordingFault → ℕ
failed_writes (Err Write) = 1
failed_writes others = 0
