-- What the data of a page has of a version: the lines that the reports print as JSON.
use Rattle.std.specs.Prelude.{ℕ, List, [], ◌∷◌, None}
use Rattle.json.specs.Print.{print}
use Rattle.json.specs.Token.{string}
use Rattle.act_expr.specs.declared.outcome.Value.TheVariants.{Null}
use Rattle.version_store.specs.Plain.{PlainVersion}
use Rattle.report_rows.specs.Swept.{plain_sweep}
use Rattle.report_rows.specs.declared.rescue_terms.RescueTerms.{RescueTerms}
use Rattle.report_rows.specs.declared.what.What.TheVariants.{Changes}
use Rattle.report_form.specs.declared.form.Form.TheVariants.{Json}
use Rattle.recording_reports.specs.Reported.{stage_text, told, whole_text}
use Rattle.recording_reports.specs.declared.all.WholeReport.{WholeReport}
use Rattle.recording_reports.specs.declared.stage.StageReport.{StageReport}
use Rattle.recording_reports.specs.declared.stage.StageReport.TheVariants.{Rescue, Slack, Sweep}

-- a text as JSON
abbrev pub text_json : List ℕ → List ℕ
text_json text = print (string text ∷ [])

-- what is told of all stages
abbrev pub whole_line : PlainVersion → WholeReport → List ℕ
whole_line version asked = whole_text (Json None) asked version

-- what is told of a version beside its parent
abbrev pub changes_line : PlainVersion → List ℕ
changes_line version = told (Json None) version Changes

-- what is told of the stage at a place
abbrev pub stage_lines : PlainVersion → ℕ → StageReport → List ℕ
stage_lines version place asked = stage_text (Json None) asked version place

-- any tick will do, an exception that did not arise leaves null, and all changes are told
abbrev pub plain_terms : RescueTerms
plain_terms = record { by = None; value = Null; most = None }

-- the reports of a stage whose rows are trials, none left out
abbrev pub all_trials : StageReport
all_trials = Sweep plain_sweep

abbrev pub all_slacks : StageReport
all_slacks = Slack None

abbrev pub all_rescues : StageReport
all_rescues = Rescue plain_terms
