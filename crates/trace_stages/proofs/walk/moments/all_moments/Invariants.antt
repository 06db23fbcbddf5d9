use Rattle.std.proofs.Common.{◌≡◌, ◌++◌, drop}
use Rattle.trace_stages.specs.Moments.{all_moments, moments_from}
use Rattle.trace_stages.proofs.walk.moments.all_moments.Given as goal

-- those so far, and those of the spans that are left
abbrev pub invariant-loop-place : goal.invariant-loop-place
invariant-loop-place l = all_moments l.intervals ≡ l.moments.items ++ moments_from l.place (drop l.place l.intervals)
