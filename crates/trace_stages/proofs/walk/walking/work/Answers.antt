use Rattle.std.proofs.Common.{subst, sym}
use Rattle.trace_stages.specs.Held.{PlainHolding}
use Rattle.trace_stages.specs.KeptWalk.{Holds}
use Rattle.trace_stages.proofs.Steps.{has_worked, not_worked}
use Rattle.trace_stages.proofs.walk.walking.work.Goals as goal

pub returns-then-tick-holding : goal.returns-then-tick-holding
returns-then-tick-holding c = λ plain h.
    let P : PlainHolding → Type 0 = λ those. Holds c.args.holding.now those in
    subst P (sym (not_worked c.args.span plain c.args.tick c.args.holding.now.reached h.1 c.if-tick-holding.true)) h

pub returns : goal.returns
returns c = λ plain h.
    let P : PlainHolding → Type 0 = λ those. Holds c.put_work.new.holding those in
    subst P (sym (has_worked c.args.span plain c.args.tick c.args.holding.now.reached h.1 c.if-tick-holding.false)) (c.in_ok-put_work.ensures plain h)
