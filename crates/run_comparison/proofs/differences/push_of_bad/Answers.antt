use Rattle.std.proofs.Common.{◌≡◌, ◌∙◌, Bool, ap}
use Rattle.stage_graph.specs.Plain.{stage_at}
use Rattle.run_comparison.specs.Differences.{bad_at, bad_in}
use Rattle.place_flags.specs.Flags.{is_flagged}
use Rattle.run_comparison.proofs.Collecting.{collects, next_place}
use Rattle.run_comparison.proofs.differences.push_of_bad.Goals as goal

pub loop-place-preserved : goal.loop-place-preserved
loop-place-preserved g c =
    let good = c.args.good.now.graph in
    let bad = c.args.bad.now.graph in
    let place = c.loop-place.place in
    let on_good = is_flagged c.args.on_good_path.now in
    let on_bad = is_flagged c.args.on_bad_path.now in
    let is : c.bad_in.result ≡ bad_at good on_good bad on_bad place =
    c.bad_in.ensures ∙ ap (λ (flag : Bool). bad_in good on_good bad flag place (stage_at bad.places place)) c.is_flagged-is_on_path.ensures in
    collects _ _ _ _ _ _ c.loop-place.invariant
    (next_place (bad_at good on_good bad on_bad) place c.len-place-end.result c.bad_in.result c.loop-place-test.true is)
    c.in_ok-push_told.ensures
