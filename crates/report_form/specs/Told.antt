-- What is told in the form that is asked for: text for people, or JSON for programs.
use Rattle.std.specs.Prelude.{ℕ, List, Option}
use Rattle.std.specs.Option.{option_map}
use Rattle.stage_graph.specs.Plain.{PlainGraph}
use Rattle.version_store.specs.Plain.{PlainVersion}
use Rattle.report_rows.specs.declared.comparison.Comparison.{Comparison}
use Rattle.report_rows.specs.declared.rescue_terms.RescueTerms.{RescueTerms}
use Rattle.report_rows.specs.declared.sweep_asked.SweepAsked.{SweepAsked}
use Rattle.report_rows.specs.declared.what.What.{What}
use Rattle.report_text.specs.Reports.{comparison_text, differences_text, rescue_report, slack_report, sweep_report, text}
use Rattle.report_form.specs.declared.form.Form.{Form}
use Rattle.report_form.specs.declared.form.Form.TheVariants.{Text, Json}
use Rattle.report_json.specs.Json.{answer_text}
use Rattle.report_json.specs.Reports.{comparison_json, differences_json, report_json, rescue_json, slack_json, sweep_json}

-- a report of a version; none where it asks for a stage that is not live
abbrev pub report_told : Form → PlainVersion → What → Option (List ℕ)
report_told Text version what = text version what
report_told (Json line) version what = option_map (answer_text line) (report_json version what)

-- which stages are worth making faster; none where it asks for a stage that is not live
abbrev pub sweep_told : Form → PlainVersion → ℕ → SweepAsked → Option (List ℕ)
sweep_told Text version target asked = sweep_report version target asked
sweep_told (Json line) version target asked = option_map (answer_text line) (sweep_json version target asked)

-- how much longer stages may run; none where it asks for a stage that is not live
abbrev pub slack_told : Form → PlainVersion → ℕ → Option ℕ → Option (List ℕ)
slack_told Text version target within = slack_report version target within
slack_told (Json line) version target within = option_map (answer_text line) (slack_json version target within)

-- which changes would have saved a reply; none where it asks for a stage that is not live
abbrev pub rescue_told : Form → PlainVersion → ℕ → RescueTerms → Option (List ℕ)
rescue_told Text version target terms = rescue_report version target terms
rescue_told (Json line) version target terms = option_map (answer_text line) (rescue_json version target terms)

-- a version against another one
abbrev pub comparison_told : Form → Comparison → PlainVersion → PlainVersion → List ℕ
comparison_told Text comparison version against = comparison_text comparison version against
comparison_told (Json line) comparison version against = answer_text line (comparison_json comparison version against)

-- in which stages a good run and a bad one differ, where they are compared for the stage that stands at these places
abbrev pub differences_told : Form → PlainGraph → ℕ → PlainGraph → ℕ → List ℕ
differences_told Text good at_good bad at_bad = differences_text good at_good bad at_bad
differences_told (Json line) good at_good bad at_bad = answer_text line (differences_json good at_good bad at_bad)
