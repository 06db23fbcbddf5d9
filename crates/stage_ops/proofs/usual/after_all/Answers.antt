use Rattle.std.proofs.Common.{ℕ, List, sym, subst}
use Rattle.stage_ops.specs.declared.usual.Returned.{Returned}
use Rattle.stage_ops.specs.States.{seen_at, state_at}
use Rattle.stage_ops.specs.Usual.{AreNormal, IsProgress}
use Rattle.stage_ops.proofs.UsualLemmas.{all_of}
use Rattle.stage_ops.proofs.usual.after_all.Goals as goal

pub returns : goal.returns
returns g c =
    let inputs = seen_at (state_at (g.L.Look.states c.args.look.now)) in
    let stage = c.args.stage.now in
    let trigger = c.in_ok-trigger.trigger in
    subst (λ (returned : Returned). IsProgress stage inputs returned) (sym c.pass_at.ensures)
    (all_of stage inputs trigger c.requires.all (subst (λ (places : List ℕ). AreNormal stage.created inputs places trigger) c.as_slice.ensures c.in_ok-trigger.ensures))
