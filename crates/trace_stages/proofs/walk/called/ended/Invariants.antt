use Rattle.std.proofs.Common.{◌≡◌, take}
use Rattle.trace_stages.specs.Called.{ending}
use Rattle.trace_stages.proofs.walk.called.ended.Given as goal

-- those that ended so far
abbrev pub invariant-loop-at : goal.invariant-loop-at
invariant-loop-at l = l.places.items ≡ ending (take l.at-index l.moments)
