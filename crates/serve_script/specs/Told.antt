-- What is told of an event or of a line, in the form that is asked for: text for people, or JSON for programs.
use Rattle.std.specs.Prelude.{List, ℕ, [], ◌++◌, Bool, Option, codes}
use Rattle.recording.specs.FaultTexts.{fault_text}
use Rattle.recording.specs.declared.fault.Fault.{Fault}
use Rattle.recording_text.specs.Reports.{report_lines, report_object}
use Rattle.report_json.specs.Json.{answer_text}
use Rattle.report_form.specs.declared.form.Form.{Form}
use Rattle.report_form.specs.declared.form.Form.TheVariants.{Text, Json}
use Rattle.text_io.specs.Writes.{line_end}
use Rattle.session_core.specs.declared.event.Event.{Event}
use Rattle.session_core.specs.declared.event.Reply.{Reply}
use Rattle.version_store.specs.Plain.{PlainVersion}
use Rattle.serve_script.specs.Replies.{reply_line}
use Rattle.serve_script.specs.Values.{fault_json, refused, reply_json}

-- the reply to an event, which is of this base if it is a commit
abbrev pub reply_told : Form → Option PlainVersion → Event → Bool → Reply → List ℕ
reply_told Text base event listed reply = reply_line base event listed reply
reply_told (Json line) base event listed reply = answer_text line (reply_json base event listed reply)

-- why a line names no step
abbrev pub fault_told : Form → Fault → List ℕ
fault_told Text fault = fault_text fault ++ line_end
fault_told (Json line) fault = answer_text line (fault_json fault)

abbrev pub no_version_told : Form → List ℕ
no_version_told Text = codes "refused 52 NoVersion" ++ line_end
no_version_told (Json line) = answer_text line (refused 52 (codes "NoVersion") [])

abbrev pub no_stage_told : Form → List ℕ
no_stage_told Text = codes "refused 10 NoStage" ++ line_end
no_stage_told (Json line) = answer_text line (refused 10 (codes "NoStage") [])

-- a version as a recording
abbrev pub recording_told : Form → PlainVersion → List ℕ
recording_told Text version = report_lines version.number version.graph
recording_told (Json line) version = report_object line version.number version.graph
