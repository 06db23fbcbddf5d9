use Rattle.std.proofs.Common.{◌≡◌, ap, subst, ◌∙◌}
use Rattle.act_expr.specs.declared.outcome.Mode.{Mode}
use Rattle.stage_graph.specs.Plain.{PlainGraph}
use Rattle.stage_graph.specs.Sound.{IsSound}
use Rattle.stage_ops.specs.Starts.{action_start}
use Rattle.stage_ops.specs.States.{seen_at, state_at}
use Rattle.version_store.specs.Evaluated.{IsEvaluated}
use Rattle.version_store.proofs.Reasoning.{kept_in_time, kept_start, sound_among_kept}
use Rattle.version_store.proofs.evaluated.Evaluated.action_start_of.Goals as goal

pub action_start-requires-clause-sound : goal.action_start-requires-clause-sound
action_start-requires-clause-sound g c =
    let graph = c.args.self.now in
    let evaluated : IsEvaluated graph c.self.inside.order c.self.inside.states =
    subst (λ (graph : PlainGraph). IsEvaluated graph c.self.inside.order c.self.inside.states) c.self.view_is c.self.invariant in
    sound_among_kept graph c.self.inside.order c.self.inside.states evaluated (subst IsSound c.graph-2.ensures.graph c.len.ensures.sound) c.args.stage.now c.requires

pub action_start-requires-clause-moments : goal.action_start-requires-clause-moments
action_start-requires-clause-moments g c =
    let graph = c.args.self.now in
    let evaluated : IsEvaluated graph c.self.inside.order c.self.inside.states =
    subst (λ (graph : PlainGraph). IsEvaluated graph c.self.inside.order c.self.inside.states) c.self.view_is c.self.invariant in
    kept_in_time graph c.self.inside.order c.self.inside.states evaluated (subst IsSound c.graph-2.ensures.graph c.len.ensures.sound)

pub returns : goal.returns
returns g c =
    let graph = c.args.self.now in
    let evaluated : IsEvaluated graph c.self.inside.order c.self.inside.states =
    subst (λ (graph : PlainGraph). IsEvaluated graph c.self.inside.order c.self.inside.states) c.self.view_is c.self.invariant in
    let mode : c.mode-mode.result ≡ graph.mode = c.mode-mode.ensures ∙ ap (λ (graph : PlainGraph). graph.mode) c.graph.ensures.graph in
    c.action_start.ensures ∙ ap (λ (mode : Mode). action_start mode c.args.stage.now (seen_at (state_at c.self.inside.states))) mode
    ∙ kept_start graph c.self.inside.order c.self.inside.states evaluated (subst IsSound c.graph-2.ensures.graph c.len.ensures.sound) c.args.stage.now
