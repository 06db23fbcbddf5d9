use Rattle.std.proofs.Common.{◌∙◌, Some, sym, ap, arith}
use Rattle.stage_ops.specs.declared.state.State.{State}
use Rattle.time_sweep.proofs.Overlaid.{state_within, states_long}
use Rattle.time_sweep.proofs.changes.NowLook.state.Goals as goal

pub at-requires : goal.at-requires
at-requires c =
    let now = c.args.self.now in
    let long = states_long now.before.now now.changes.now.at.items now.changes.now.list.items in
    omega (arith, long, c.requires)

pub returns : goal.returns
returns c =
    let now = c.args.self.now in
    let long = states_long now.before.now now.changes.now.at.items now.changes.now.list.items in
    state_within now.before.now now.changes.now.at.items now.changes.now.list.items c.args.place (omega (arith, long, c.requires))
    ∙ ap (λ (state : State). Some state) (sym (c.state.ensures ∙ c.at.ensures))
