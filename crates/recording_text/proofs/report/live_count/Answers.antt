use Rattle.std.proofs.Common.{arith}
use Rattle.recording_text.proofs.Lines.{at_most_one, next_count}
use Rattle.stage_graph.specs.Plain.{stage_at}
use Rattle.recording_text.proofs.report.live_count.Goals as goal

pub loop-place-preserved : goal.loop-place-preserved
loop-place-preserved g c =
    let places = c.args.graph.now.places in
    let ends = c.loop-place.invariant.ends in
    let before = c.loop-place-test.true in
    let here = next_count places c.loop-place.place (omega (arith, ends, before)) in
    let few = at_most_one (stage_at places c.loop-place.place) in
    let is = c.count_at-count.ensures in
    let counted = c.loop-place.invariant.counted in
    let bound = c.loop-place.invariant.bound in
    record { counted = omega (arith, here, is, counted); bound = omega (arith, few, is, bound); ends = ends }
