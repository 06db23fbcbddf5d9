use Rattle.std.proofs.Common.{◌≡◌, ◌∙◌, List, ℕ, ap, subst, length}
use Rattle.std.specs.Prelude.{IfOk}
use Rattle.stage_graph.specs.Plain.{PlainGraph}
use Rattle.stage_graph.proofs.Lists.{same_function}
use Rattle.stage_ops.specs.declared.state.State.{State}
use Rattle.scratch_eval.specs.Blame.{followed}
use Rattle.version_store.specs.Queries.{state_of}
use Rattle.version_store.proofs.evaluated.Evaluated.follow.Goals as goal

pub returns : goal.returns
returns g c =
    let place = c.args.place in
    let of_states = ap (λ (states : ℕ → State). followed states c.len.result place) (same_function c.self.invariant.evaluated.each) in
    let of_graph = ap (λ (graph : PlainGraph). followed (state_of graph) c.len.result place) c.self.view_is in
    let of_all = ap (λ (most : ℕ). followed (state_of c.args.self.now) most place) (c.len.ensures.len ∙ ap (λ (graph : PlainGraph). length graph.places) c.graph.ensures.graph) in
    subst (λ (chain : List ℕ). IfOk c.follow_blame.result (λ places. places ≡ chain)) (of_states ∙ of_graph ∙ of_all) c.follow_blame.ensures
