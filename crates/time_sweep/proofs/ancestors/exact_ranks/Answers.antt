use Rattle.time_sweep.proofs.Finding.{first_looked, looked_more, nothing_known}
use Rattle.time_sweep.proofs.Waiting.{first_waited, more_waited}
use Rattle.time_sweep.proofs.ancestors.exact_ranks.Goals as goal

pub loop-place-init : goal.loop-place-init
loop-place-init g c =
    let stages = c.args.version.now.graph.places in
    let found = c.in_ok-found.found in
    let none = nothing_known c.len-count.result found.ranks.items c.in_ok-found.ensures.ranks in
    let done = c.in_ok-find.ensures in
    record {
      finding = done.finding;
      own = done.known;
      looked = first_looked stages none done.further;
      waited = first_waited stages c.args.target none c.in_ok-found.ensures.waiting done.only;
    }

pub loop-place-preserved : goal.loop-place-preserved
loop-place-preserved g c =
    let stages = c.args.version.now.graph.places in
    let place = c.in-Some.place in
    let inv = c.loop-place.invariant in
    let done = c.in_ok-find_feeds.ensures in
    record {
      finding = done.finding;
      own = done.further.kept c.args.target inv.own;
      looked = looked_more stages place inv.looked c.in-Some.ensures.items done.further done.known;
      waited = more_waited stages c.args.target place inv.waited c.in-Some.ensures.items done.only;
    }

pub returns-clause-exact : goal.returns-clause-exact
returns-clause-exact g c place known = c.loop-place.invariant.waited.known place known
