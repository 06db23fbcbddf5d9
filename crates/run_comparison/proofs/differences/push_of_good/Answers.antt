use Rattle.run_comparison.specs.Differences.{good_at}
use Rattle.run_comparison.proofs.Collecting.{collects, next_place}
use Rattle.run_comparison.proofs.differences.push_of_good.Goals as goal

pub loop-place-preserved : goal.loop-place-preserved
loop-place-preserved g c =
    collects _ _ _ _ _ _ c.loop-place.invariant
    (next_place (good_at c.args.good.now.graph c.args.bad.now.graph) c.loop-place.place c.len-place-end.result c.good_in.result c.loop-place-test.true c.good_in.ensures)
    c.in_ok-push_told.ensures
