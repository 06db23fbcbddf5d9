use Rattle.std.proofs.Common.{◌∙◌, ℕ, Option, sym, ap, subst}
use Rattle.std.proofs.lemmas.Result.{IfOk-weaker}
use Rattle.act_expr.specs.declared.outcome.Mode.{Mode}
use Rattle.stage_ops.specs.Among.{IsSoundAmong}
use Rattle.stage_ops.specs.Java.{java_step}
use Rattle.stage_ops.specs.States.{Completion, seen_at, state_at}
use Rattle.time_sweep.specs.Changed.{states_in}
use Rattle.time_sweep.proofs.Overlaid.{sees_same, states_long}
use Rattle.time_sweep.proofs.completion.state_of.Goals as goal

pub compute-state-requires-clause-sound : goal.compute-state-requires-clause-sound
compute-state-requires-clause-sound g c =
    let now = c.args.now.now in
    subst (λ (count : ℕ). IsSoundAmong count c.args.stage.now) (sym (states_long now.before.now now.changes.now.at.items now.changes.now.list.items)) c.requires.sound

pub returns-clause-state : goal.returns-clause-state
returns-clause-state g c =
    let now = c.args.now.now in
    IfOk-weaker c.new.result _ _
    (λ kept stored. stored
    ∙ c.compute-state.ensures
    ∙ ap (λ (mode : Mode). java_step mode c.args.stage.now (seen_at (state_at (states_in now.before.now now.changes.now.at.items now.changes.now.list.items)))) c.mode.ensures
    ∙ ap (λ (seen : ℕ → Option Completion). java_step c.args.graph.now.mode c.args.stage.now seen) (sees_same now.before.now now.changes.now.at.items now.changes.now.list.items c.requires.each))
    c.new.ensures
