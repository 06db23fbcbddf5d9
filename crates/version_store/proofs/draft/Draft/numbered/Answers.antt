use Rattle.std.proofs.Common.{Some, ap}
use Rattle.version_store.proofs.Keeping.{keeps_same}
use Rattle.version_store.proofs.draft.Draft.numbered.Goals as goal

pub made-requires-clause-others : goal.made-requires-clause-others
made-requires-clause-others g c κs within =
    keeps_same (Some c.self.inside.origin) (Some c.in_ok-origin.origin) c.self.inside.graph c.in_ok-graph.graph (ap (λ origin. Some origin) c.in_ok-origin.ensures) c.in_ok-graph.ensures c.self.invariant.1.0
