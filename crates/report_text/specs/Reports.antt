-- The text of each report.
use Rattle.std.specs.Prelude.{ℕ, List, Option}
use Rattle.std.specs.Option.{option_map}
use Rattle.stage_graph.specs.Plain.{PlainGraph}
use Rattle.version_store.specs.Plain.{PlainVersion}
use Rattle.report_rows.specs.declared.comparison.Comparison.{Comparison}
use Rattle.report_rows.specs.declared.rescue_terms.RescueTerms.{RescueTerms}
use Rattle.report_rows.specs.declared.sweep_asked.SweepAsked.{SweepAsked}
use Rattle.report_rows.specs.declared.what.What.{What}
use Rattle.report_rows.specs.Said.{comparison_said, differences_said, rescue_said, said, slack_said, sweep_said}
use Rattle.report_text.specs.Texts.{report_text}
pub use Rattle.report_rows.specs.Faults.{failed_writes, report_number}

-- a report of a version; none where it asks for a stage that is not live
abbrev pub text : PlainVersion → What → Option (List ℕ)
text version what = option_map report_text (said version what)

-- a version against another one
abbrev pub comparison_text : Comparison → PlainVersion → PlainVersion → List ℕ
comparison_text comparison version against = report_text (comparison_said comparison version against)

-- which stages are worth making faster; none where it asks for a stage that is not live
abbrev pub sweep_report : PlainVersion → ℕ → SweepAsked → Option (List ℕ)
sweep_report version target asked = option_map report_text (sweep_said version target asked)

-- how much longer stages may run; none where it asks for a stage that is not live
abbrev pub slack_report : PlainVersion → ℕ → Option ℕ → Option (List ℕ)
slack_report version target within = option_map report_text (slack_said version target within)

-- which changes would have saved a reply; none where it asks for a stage that is not live
abbrev pub rescue_report : PlainVersion → ℕ → RescueTerms → Option (List ℕ)
rescue_report version target terms = option_map report_text (rescue_said version target terms)

-- in which stages a good run and a bad one differ, where they are compared for the stage that stands at these places
abbrev pub differences_text : PlainGraph → ℕ → PlainGraph → ℕ → List ℕ
differences_text good at_good bad at_bad = report_text (differences_said good at_good bad at_bad)
