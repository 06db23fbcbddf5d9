use Rattle.std.proofs.Common.{arith, subst, sym, take}
use Rattle.trace_stages.specs.Held.{PlainHolding}
use Rattle.trace_stages.specs.KeptWalk.{Holds}
use Rattle.trace_stages.specs.Walk.{with_called}
use Rattle.trace_stages.proofs.Steps.{called_more}
use Rattle.trace_stages.proofs.walk.walking.end_called.Goals as goal

pub loop-call-preserved : goal.loop-call-preserved
loop-call-preserved c = λ plain h.
    let P : PlainHolding → Type 0 = λ those. Holds c.end.new.holding those in
    subst P (sym (called_more plain c.args.called.now c.loop-call.call-index _ (omega arith)))
    (c.in_ok-end.ensures (with_called plain (take c.loop-call.call-index c.args.called.now)) (c.loop-call.invariant plain h))
