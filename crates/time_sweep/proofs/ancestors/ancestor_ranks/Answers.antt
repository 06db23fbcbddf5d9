use Rattle.time_sweep.proofs.Finding.{looked_more}
use Rattle.time_sweep.proofs.ancestors.ancestor_ranks.Goals as goal

pub loop-place-preserved : goal.loop-place-preserved
loop-place-preserved g c =
    let inv = c.loop-place.invariant in
    let done = c.in_ok-find_feeds.ensures in
    record {
      finding = done.finding;
      own = done.further.kept c.args.target inv.own;
      looked = looked_more c.args.version.now.graph.places c.in-Some.place inv.looked c.in-Some.ensures.items done.further done.known;
    }
