-- The output for several scripts, whose clients share a desk.
use Rattle.std.specs.Prelude.{◌≡◌, ◌<◌, ◌≤◌, ◌+◌, ◌⊎◌, ℕ, List, [], ◌∷◌, ◌++◌, All, length, codes}
use Rattle.std.specs.Fmt.{decimal}
use mathlib.Core.List.{IsPrefix}
use Rattle.stage_graph.specs.Plain.{PlainGraph}
use Rattle.version_store.specs.Plain.{PlainVersion}
use Rattle.text_io.specs.Writes.{line_end}
use Rattle.session_core.specs.Machine.{State}
use Rattle.session_core.specs.declared.event.Entry.{Entry}
use Rattle.report_json.specs.Json.{count, line_text, object}
use Rattle.report_form.specs.declared.form.Format.{Format}
use Rattle.report_form.specs.declared.form.Format.TheVariants.{Text, Json}
use Rattle.script_lines.specs.Lines.{lines_of}
use Rattle.serve_script.specs.Answers.{opening_state}
use Rattle.desk.specs.Clients.{entries_of}
use Rattle.desk.specs.Locked.{Replays}
use Rattle.many_scripts.specs.Played.{IsPlayed}

-- ---- what is printed

-- whose lines follow
abbrev pub script_line : Format → ℕ → List ℕ
script_line Text number = codes "script " ++ decimal number ++ line_end
script_line Json number = line_text (object ((codes "script", count number) ∷ []))

-- the number of a script, and its lines
abbrev pub script_text : Format → ℕ → List ℕ → List ℕ
script_text format number text = script_line format number ++ text

-- script after script, from this number on
abbrev pub scripts_text : Format → ℕ → List (List ℕ) → List ℕ
scripts_text format number [] = []
scripts_text format number (text ∷ texts) = script_text format number text ++ scripts_text format (number + 1) texts

-- how many entries the log has
abbrev pub log_line : Format → ℕ → List ℕ
log_line Text entries = codes "log " ++ decimal entries ++ line_end
log_line Json entries = line_text (object ((codes "log", count entries) ∷ []))

-- ---- what the scripts did

-- the entries that the log has of this client are those of the script's lines, and this is what is printed for them, by
-- versions of which the log's are the beginning, or which are the beginning of the log's
pub record IsOfLog (format : Format) (log : List Entry) (versions : List PlainVersion) (number : ℕ) (script text : List ℕ) : Type 0 where
  pub seen : List PlainVersion
  pub goes_with : IsPrefix seen versions ⊎ IsPrefix versions seen
  pub played : IsPlayed format 1 number seen [] (lines_of script) (entries_of number log) text

-- script after script, from this number on
abbrev pub AreOfLog : Format → List Entry → List PlainVersion → ℕ → List (List ℕ) → List (List ℕ) → Type 0
AreOfLog format log versions number [] texts = texts ≡ []
AreOfLog format log versions number (script ∷ scripts) [] = ⊥
AreOfLog format log versions number (script ∷ scripts) (text ∷ texts) = IsOfLog format log versions number script text × AreOfLog format log versions (number + 1) scripts texts

-- There is a legal log of K entries, each of one of the scripts; and the output is each script's lines in order, and then
-- the number K
pub record IsOutput (format : Format) (graph : PlainGraph) (scripts : List (List ℕ)) (output : List ℕ) : Type 0 where
  pub log : List Entry
  pub last : State
  pub legal : Replays (opening_state graph) log last
  pub of_scripts : All (λ e. (0 < e.who) × (e.who ≤ length scripts)) log
  pub texts : List (List ℕ)
  pub played : AreOfLog format log last.versions 1 scripts texts
  pub whole : output ≡ scripts_text format 1 texts ++ log_line format (length log)
