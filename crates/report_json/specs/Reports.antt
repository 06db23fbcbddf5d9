-- The reports as JSON.
use Rattle.std.specs.Prelude.{ℕ, Option}
use Rattle.std.specs.Option.{option_map}
use Rattle.serde_json.specs.Data.{Data}
use Rattle.stage_graph.specs.Plain.{PlainGraph}
use Rattle.version_store.specs.Plain.{PlainVersion}
use Rattle.report_rows.specs.declared.comparison.Comparison.{Comparison}
use Rattle.report_rows.specs.declared.rescue_terms.RescueTerms.{RescueTerms}
use Rattle.report_rows.specs.declared.sweep_asked.SweepAsked.{SweepAsked}
use Rattle.report_rows.specs.declared.what.What.{What}
use Rattle.report_rows.specs.Said.{comparison_said, differences_said, rescue_said, said, slack_said, sweep_said}
use Rattle.report_json.specs.Heads.{object_of}

-- a report of a version; none where it asks for a stage that is not live
abbrev pub report_json : PlainVersion → What → Option Data
report_json version what = option_map object_of (said version what)

-- a version against another one, stage by stage of the same name
abbrev pub comparison_json : Comparison → PlainVersion → PlainVersion → Data
comparison_json comparison version against = object_of (comparison_said comparison version against)

-- which stages are worth making faster; none where it asks for a stage that is not live
abbrev pub sweep_json : PlainVersion → ℕ → SweepAsked → Option Data
sweep_json version target asked = option_map object_of (sweep_said version target asked)

-- how much longer stages may run; none where it asks for a stage that is not live
abbrev pub slack_json : PlainVersion → ℕ → Option ℕ → Option Data
slack_json version target within = option_map object_of (slack_said version target within)

-- which changes would have saved a reply; none where it asks for a stage that is not live
abbrev pub rescue_json : PlainVersion → ℕ → RescueTerms → Option Data
rescue_json version target terms = option_map object_of (rescue_said version target terms)

-- in which stages a good run and a bad one differ, where they are compared for the stage that stands at these places
abbrev pub differences_json : PlainGraph → ℕ → PlainGraph → ℕ → Data
differences_json good at_good bad at_bad = object_of (differences_said good at_good bad at_bad)
