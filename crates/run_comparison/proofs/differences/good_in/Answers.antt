use Rattle.std.proofs.Common.{◌∙◌, ℕ, ap}
use Rattle.stage_graph.specs.Plain.{place_named}
use Rattle.version_store.specs.Plain.{PlainVersion}
use Rattle.run_comparison.specs.Differences.{good_in, good_told}
use Rattle.run_comparison.proofs.differences.good_in.Goals as goal

pub returns-in-Some : goal.returns-in-Some
returns-in-Some g c =
    let good = c.args.good.now.graph in
    let bad = c.args.bad.now.graph in
    let name = c.in-Some.view.stage.now.name in
    c.good_told.ensures
    ∙ ap (λ (version : PlainVersion). good_told version.graph bad c.in-Some.view.place (place_named bad.places name)) c.in-Some.ensures.version
    ∙ ap (λ (place : ℕ). good_told good bad place (place_named bad.places name)) c.in-Some.ensures.place
    ∙ ap (good_in good bad c.args.place) c.in-Some.ensures.stage

pub returns-in-None : goal.returns-in-None
returns-in-None g c = ap (good_in c.args.good.now.graph c.args.bad.now.graph c.args.place) c.in-None.ensures.stage
