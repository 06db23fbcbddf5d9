use Rattle.std.proofs.Common.{◌∙◌, ℕ, Option, ap}
use Rattle.std.specs.Option.{option_map_or}
use Rattle.stage_graph.specs.declared.stage.Stage.{Stage}
use Rattle.version_store.specs.Plain.{PlainVersion}
use Rattle.report_rows.specs.Rows.{in_run_of, not_in_run}
use Rattle.report_rows.proofs.in_run.InRun.at.Goals as goal

pub returns-in-Some : goal.returns-in-Some
returns-in-Some g c =
    let graph = c.args.version.now.graph in
    c.of.ensures
    ∙ ap (λ (version : PlainVersion). in_run_of version.graph c.in-Some.view.place) c.in-Some.ensures.version
    ∙ ap (λ (place : ℕ). in_run_of graph place) c.in-Some.ensures.place
    ∙ ap (λ (here : Option Stage). option_map_or (λ (stage : Stage). in_run_of graph c.args.place) here not_in_run) c.in-Some.ensures.stage

pub returns-in-None : goal.returns-in-None
returns-in-None g c =
    let graph = c.args.version.now.graph in
    c.absent.ensures
    ∙ ap (λ (here : Option Stage). option_map_or (λ (stage : Stage). in_run_of graph c.args.place) here not_in_run) c.in-None.ensures.stage
