use Rattle.std.proofs.Common.{ap, sym, ◌∙◌, List}
use Rattle.stage_ops.specs.declared.state.State.{State}
use Rattle.stage_ops.specs.States.{pending, state_at}
use Rattle.scratch_eval.specs.Blame.{failure_of}
use Rattle.rank_order.proofs.Setting.{read_none}
use Rattle.propagate.proofs.states.StatesFailures.failure.Goals as goal

pub returns-in-None : goal.returns-in-None
returns-in-None g c =
    ap (λ (state : State). failure_of state.done) (read_none _ c.args.place pending (sym c.in-None.ensures))
    ∙ ap (λ (states : List State). failure_of (state_at states c.args.place).done) c.self.view_is
