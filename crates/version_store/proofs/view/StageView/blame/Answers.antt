use Rattle.std.proofs.Common.{◌≡◌, IfOk, subst, ◌∙◌}
use Rattle.stage_graph.specs.Plain.{PlainGraph}
use Rattle.stage_ops.specs.Java.{java_step}
use Rattle.scratch_eval.specs.Blame.{chain}
use Rattle.version_store.proofs.view.StageView.blame.Goals as goal

pub returns : goal.returns
returns g c =
    subst (λ (graph : PlainGraph). IfOk c.blame.result (λ places. places ≡ chain (java_step graph.mode) graph.places c.args.self.now.place))
    (c.deref.ensures ∙ c.evaluated.ensures) c.blame.ensures
