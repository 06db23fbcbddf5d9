use Rattle.std.proofs.Common.{ℕ}
use Rattle.run_comparison.proofs.Counterparts.{stands_as_named}
use Rattle.run_comparison.proofs.differences.stage_named.Goals as goal

pub returns-clause-place : goal.returns-clause-place
returns-clause-place g c =
    stands_as_named (λ view. view.place) (λ view. view.stage.now) c.args.version.now.graph.places c.args.name.now c.in-Ok.place c.stage.result c.in-Ok.ensures c.stage.ensures.place c.stage.ensures.stage
