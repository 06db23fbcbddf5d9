use Rattle.std.proofs.Common.{subst}
use Rattle.stage_graph.specs.Sound.{IsSound}
use Rattle.version_store.proofs.PathsOf.{adds_up}
use Rattle.version_store.proofs.evaluated.Evaluated.path.Goals as goal

pub returns-clause-adds_up : goal.returns-clause-adds_up
returns-clause-adds_up g c =
    adds_up c.args.self.now (subst IsSound c.graph-graph.ensures.graph c.len.ensures.sound) c.graph-graph.ensures.ranked c.args.place c.requires c.follow_causes.result c.follow_causes.ensures
