use Rattle.std.proofs.Common.{subst}
use Rattle.stage_graph.specs.Sound.{IsSound}
use Rattle.version_store.proofs.Moments.{by_rank, by_rank_unqueued}
use Rattle.version_store.proofs.version.Version.moment.Goals as goal

pub returns-clause-bound : goal.returns-clause-bound
returns-clause-bound g c =
    let sound = subst IsSound c.graph.ensures.graph c.len.ensures.sound in
    by_rank c.args.self.now.graph sound c.graph.ensures.ranked c.args.place c.completed.result c.completed.ensures

pub returns-clause-unqueued : goal.returns-clause-unqueued
returns-clause-unqueued g c idle =
    let sound = subst IsSound c.graph.ensures.graph c.len.ensures.sound in
    by_rank_unqueued c.args.self.now.graph sound c.graph.ensures.ranked c.args.place c.completed.result c.completed.ensures idle
