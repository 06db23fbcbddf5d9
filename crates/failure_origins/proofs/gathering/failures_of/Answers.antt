use Rattle.std.proofs.Common.{◌≡◌, List, subst, sym}
use Rattle.std.specs.Prelude.{IfOk}
use Rattle.stage_graph.specs.Sound.{IsSound}
use Rattle.failure_origins.specs.declared.failure.Failure.{Failure}
use Rattle.failure_origins.specs.Origins.{AreOrigins}
use Rattle.failure_origins.proofs.Telling.{all_failures}
use Rattle.failure_origins.proofs.gathering.failures_of.Goals as goal

pub returns : goal.returns
returns g c =
    let graph = c.args.version.now.graph in
    let known = c.as_slice-known.result.now in
    let are : AreOrigins graph known = subst (AreOrigins graph) (sym c.as_slice-known.ensures.value) c.in_ok-origins.ensures in
    let sound : IsSound graph = subst IsSound c.graph.ensures.graph c.len.ensures.sound in
    let all = all_failures graph known are sound c.graph.ensures.ranked c.in_ok-reached.reached.items c.in_ok-handled.handled.items c.in_ok-reached.ensures c.in_ok-handled.ensures in
    subst (λ (list : List Failure). IfOk c.with_lists.result (λ found. found.items ≡ list)) all c.with_lists.ensures
