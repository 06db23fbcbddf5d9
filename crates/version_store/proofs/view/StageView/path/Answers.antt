use Rattle.std.proofs.Common.{◌≡◌, IfOk, subst, ◌∙◌}
use Rattle.stage_graph.specs.Plain.{PlainGraph}
use Rattle.scratch_eval.specs.Path.{IsPath, path}
use Rattle.version_store.proofs.view.StageView.path.Goals as goal

pub returns-clause-path : goal.returns-clause-path
returns-clause-path g c =
    subst (λ (graph : PlainGraph). IfOk c.path.result (λ places. places ≡ path graph c.args.self.now.place)) (c.deref.ensures ∙ c.evaluated.ensures) c.path.ensures.path

pub returns-clause-adds_up : goal.returns-clause-adds_up
returns-clause-adds_up g c =
    subst (λ (graph : PlainGraph). IfOk c.path.result (IsPath graph c.args.self.now.place)) (c.deref.ensures ∙ c.evaluated.ensures) c.path.ensures.adds_up
