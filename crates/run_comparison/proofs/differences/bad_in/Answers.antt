use Rattle.std.proofs.Common.{◌∙◌, ℕ, ap}
use Rattle.stage_graph.specs.Plain.{place_named}
use Rattle.version_store.specs.Plain.{PlainVersion}
use Rattle.run_comparison.specs.Differences.{bad_in, bad_told}
use Rattle.place_flags.specs.Flags.{is_flagged}
use Rattle.run_comparison.proofs.differences.bad_in.Goals as goal

pub returns-in-Some : goal.returns-in-Some
returns-in-Some g c =
    let good = c.args.good.now.graph in
    let on = is_flagged c.args.on_good_path.now in
    let bad = c.args.bad.now.graph in
    let name = c.in-Some.view.stage.now.name in
    c.bad_told.ensures
    ∙ ap (λ (version : PlainVersion). bad_told good on version.graph c.args.is_on_path c.in-Some.view.place (place_named good.places name)) c.in-Some.ensures.version
    ∙ ap (λ (place : ℕ). bad_told good on bad c.args.is_on_path place (place_named good.places name)) c.in-Some.ensures.place
    ∙ ap (bad_in good on bad c.args.is_on_path c.args.place) c.in-Some.ensures.stage

pub returns-in-None : goal.returns-in-None
returns-in-None g c =
    ap (bad_in c.args.good.now.graph (is_flagged c.args.on_good_path.now) c.args.bad.now.graph c.args.is_on_path c.args.place) c.in-None.ensures.stage
