use Rattle.std.proofs.Common.{◌≡◌, drop}
use Rattle.stage_ops.specs.States.{seen_at, state_at}
use Rattle.stage_ops.specs.Reasons.{first_at}
use Rattle.stage_ops.specs.Sources.{completed}
use Rattle.stage_ops.proofs.reasons.first_at.Given as goal

-- the first is among the remaining ones
abbrev pub invariant-loop-place : goal.invariant-loop-place
invariant-loop-place g l =
    first_at l.tick (completed (seen_at (state_at (g.L.Look.states l.look))) (drop l.place-index l.sources)) ≡ first_at l.tick (completed (seen_at (state_at (g.L.Look.states l.look))) l.sources)
