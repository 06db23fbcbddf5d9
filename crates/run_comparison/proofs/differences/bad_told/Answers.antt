use Rattle.std.proofs.Common.{◌∙◌, Bool, ap}
use Rattle.stage_graph.specs.Plain.{place_named}
use Rattle.version_store.specs.Plain.{PlainVersion}
use Rattle.run_comparison.specs.Differences.{bad_told, both_told}
use Rattle.place_flags.specs.Flags.{is_flagged}
use Rattle.run_comparison.proofs.differences.bad_told.Goals as goal

pub returns-in-Some : goal.returns-in-Some
returns-in-Some g c =
    let good = c.args.good.now.graph in
    let on = is_flagged c.args.on_good_path.now in
    let bad = c.args.bad.now.version.now.graph in
    let here = c.args.bad.now.place in
    let there = c.in-Some.there.place in
    c.both_told.ensures
    ∙ ap (λ (version : PlainVersion). both_told version.graph there bad here c.is_on_either.result) c.in-Some.ensures.version
    ∙ ap (λ (flag : Bool). both_told good there bad here flag) c.is_on_either.ensures
    ∙ ap (bad_told good on bad c.args.is_on_path here) (c.in-Some.ensures.place ∙ ap (place_named good.places) c.as_str.ensures)

pub returns-in-None : goal.returns-in-None
returns-in-None g c =
    let good = c.args.good.now.graph in
    ap (bad_told good (is_flagged c.args.on_good_path.now) c.args.bad.now.version.now.graph c.args.is_on_path c.args.bad.now.place)
    (c.in-None.ensures.place ∙ ap (place_named good.places) c.as_str.ensures)
