use Rattle.std.proofs.Common.{take}
use Rattle.trace_stages.specs.Held.{PlainHolding}
use Rattle.trace_stages.specs.KeptWalk.{Holds}
use Rattle.trace_stages.specs.Walk.{with_called}
use Rattle.trace_stages.proofs.walk.walking.end_called.Given as goal

-- what the span has after the calls so far
abbrev pub invariant-loop-call : goal.invariant-loop-call
invariant-loop-call l = (plain : PlainHolding) → Holds l.fn.holding plain → Holds l.holding (with_called plain (take l.call-index l.called))
