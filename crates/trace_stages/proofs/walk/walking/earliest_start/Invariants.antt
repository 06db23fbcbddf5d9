use Rattle.std.proofs.Common.{◌≡◌, take}
use Rattle.std.specs.Prelude.{fold}
use Rattle.trace_stages.specs.Walk.{earlier_start}
use Rattle.trace_stages.proofs.walk.walking.earliest_start.Given as goal

-- the earliest so far
abbrev pub invariant-loop-call : goal.invariant-loop-call
invariant-loop-call l = l.since ≡ fold earlier_start l.fn.start (take l.call-index l.calls)
