use Rattle.std.proofs.Common.{◌≡◌, take}
use Rattle.trace_spans.proofs.target.Target.same.Given as goal

-- those so far are the same
abbrev pub invariant-loop-place : goal.invariant-loop-place
invariant-loop-place l = take l.place l.aims ≡ take l.place l.others
