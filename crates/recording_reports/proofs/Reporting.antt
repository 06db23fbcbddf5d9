-- What is told of a recording's graph, of its version 0.
use Rattle.std.proofs.Common.{◌≡◌, ℕ, List, Some, Ok, sym, ap, ◌∙◌}
use Rattle.stage_graph.specs.Plain.{PlainGraph, place_named}
use Rattle.std.specs.Option.{option_map}
use Rattle.recording.specs.Reads.{IsNamed}
use Rattle.recording.specs.RecordingOf.{named}
use Rattle.version_store.specs.Plain.{PlainVersion, opening_version}
use Rattle.version_store.specs.Queries.{found}
use Rattle.report_form.specs.declared.form.Form.{Form}
use Rattle.run_comparison.proofs.Counterparts.{placed}
use Rattle.recording_reports.specs.declared.stage.StageReport.{StageReport}
use Rattle.recording_reports.specs.declared.all.WholeReport.{WholeReport}
use Rattle.recording_reports.specs.Reported.{stage_of, stage_text, whole_of, whole_text, IsTextOf}

-- what is told of the stage that a name finds is what is to be told of the name
pub text_of_stage : (form : Form) (asked : StageReport) (name recording : List ℕ) (graph : PlainGraph) (version : PlainVersion) (place : ℕ) → IsNamed (Ok graph) (named recording)
    → version ≡ opening_version graph → Ok place ≡ found (place_named version.graph.places name)
    → IsTextOf recording (stage_of form asked name) (Some (stage_text form asked version place))
text_of_stage form asked name recording graph version place is loaded finds =
    let here : Ok place ≡ found (place_named graph.places name) = finds ∙ ap (λ (version : PlainVersion). found (place_named version.graph.places name)) loaded in (
      graph,
      is,
      ap (λ (version : PlainVersion). Some (stage_text form asked version place)) loaded
          ∙ ap (option_map (stage_text form asked (opening_version graph))) (sym (placed (place_named graph.places name) place here)),
    )

-- what is told of all stages of the version is what is to be told of the graph
pub text_of_whole : (form : Form) (asked : WholeReport) (recording : List ℕ) (graph : PlainGraph) (version : PlainVersion) → IsNamed (Ok graph) (named recording)
    → version ≡ opening_version graph → IsTextOf recording (whole_of form asked) (Some (whole_text form asked version))
text_of_whole form asked recording graph version is loaded = (graph, is, ap (λ (version : PlainVersion). Some (whole_text form asked version)) loaded)
