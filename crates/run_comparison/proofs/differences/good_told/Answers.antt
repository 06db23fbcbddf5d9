use Rattle.std.proofs.Common.{◌∙◌, ap}
use Rattle.stage_graph.specs.Plain.{PlainGraph, place_named}
use Rattle.run_comparison.specs.Differences.{good_told}
use Rattle.run_comparison.proofs.differences.good_told.Goals as goal

pub returns-in-Some : goal.returns-in-Some
returns-in-Some g c =
    let bad = c.args.bad.now.graph in
    ap (good_told c.args.good.now.version.now.graph bad c.args.good.now.place)
    (c.in-Some.ensures ∙ ap (λ (graph : PlainGraph). place_named graph.places c.as_str.result.now) c.graph.ensures.graph ∙ ap (place_named bad.places) c.as_str.ensures)

pub returns-in-None : goal.returns-in-None
returns-in-None g c =
    let bad = c.args.bad.now.graph in
    ap (good_told c.args.good.now.version.now.graph bad c.args.good.now.place)
    (c.in-None.ensures ∙ ap (λ (graph : PlainGraph). place_named graph.places c.as_str.result.now) c.graph.ensures.graph ∙ ap (place_named bad.places) c.as_str.ensures)
