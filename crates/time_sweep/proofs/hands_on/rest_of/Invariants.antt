use Rattle.std.proofs.Common.{◌≡◌, take}
use Rattle.stage_ops.specs.States.{seen_at, state_at}
use Rattle.time_sweep.specs.Forms.{rest_of}
use Rattle.time_sweep.proofs.hands_on.rest_of.Given as goal

abbrev pub invariant-loop-place : goal.invariant-loop-place
invariant-loop-place l = l.rest ≡ rest_of l.created (seen_at (state_at l.before)) l.feed (take l.place-index l.sources)
