use Rattle.std.specs.Prelude.{Contains}
use Rattle.time_sweep.proofs.hands_on.last_of.Given as goal

abbrev pub invariant-loop-place : goal.invariant-loop-place
invariant-loop-place l = Contains l.sources l.last
