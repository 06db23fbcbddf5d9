-- What the data of a page has of a script: its name and its text, what came of each version that it made, and what its steps were answered.
use Rattle.std.specs.Prelude.{ℕ, List, [], ◌++◌, codes, Option, None, Some}
use Rattle.std.specs.List.{flat_map}
use Rattle.std.specs.Str.Lossy.{utf8_lossy}
use Rattle.version_store.specs.Plain.{PlainVersion}
use Rattle.recording_reports.specs.declared.all.WholeReport.TheVariants.{All}
use Rattle.incident_page.specs.declared.frame.Script.{Script}
use Rattle.incident_page.specs.Data.{changes_line, text_json, whole_line}
use Rattle.incident_page.specs.Lines.{separated}

-- the script as it was read; where its bytes are no UTF-8, U+FFFD stands for them
abbrev pub named_script_data : Script → List ℕ
named_script_data script = (codes ",\"script\":" ++ text_json script.file.now) ++ (codes ",\"text\":" ++ text_json (utf8_lossy script.text.now))

abbrev pub script_data : Option Script → List ℕ
script_data None = codes ",\"script\":null,\"text\":null"
script_data (Some script) = named_script_data script

-- the states of all stages in version 0
abbrev pub states_data : PlainVersion → List ℕ
states_data version = codes ",\"versions\":[" ++ whole_line version All

-- what is not as it was in the version's parent
abbrev pub change_data : PlainVersion → List ℕ
change_data version = codes "," ++ changes_line version

unfoldable pub changes_data : List PlainVersion → List ℕ
changes_data made = flat_map change_data made

-- version 0, and each further one as what it changed
abbrev pub versions_data : PlainVersion → List PlainVersion → List ℕ
versions_data version made = states_data version ++ changes_data made

abbrev pub answers_in : Option Script → List ℕ
answers_in None = []
answers_in (Some script) = script.answers.now

-- what the steps were answered, a line each; the array is not closed
abbrev pub answers_data : List ℕ → List ℕ
answers_data answers = codes "],\"steps\":[" ++ separated answers

abbrev pub steps_data : Option Script → List ℕ
steps_data script = answers_data (answers_in script) ++ codes "]}\n"
