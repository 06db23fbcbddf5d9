use Rattle.std.proofs.Common.{◌≡◌, List, ℕ, subst}
use Rattle.std.specs.Prelude.{IfOk}
use Rattle.stage_graph.specs.Sound.{IsSound}
use Rattle.stage_ops.specs.Java.{java_step}
use Rattle.version_store.proofs.Blaming.{followed_chain}
use Rattle.version_store.proofs.evaluated.Evaluated.blame.Goals as goal

pub returns : goal.returns
returns g c =
    let graph = c.args.self.now in
    let sound : IsSound graph = subst IsSound c.graph-graph.ensures.graph c.len.ensures.sound in
    subst (λ (chain : List ℕ). IfOk c.follow.result (λ places. places ≡ chain)) (followed_chain (java_step graph.mode) graph sound c.args.place) c.follow.ensures
