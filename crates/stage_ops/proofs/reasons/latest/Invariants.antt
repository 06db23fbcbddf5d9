use Rattle.std.proofs.Common.{◌≡◌, take}
use Rattle.stage_ops.specs.States.{seen_at, state_at}
use Rattle.stage_ops.specs.Sources.{completed, latest}
use Rattle.stage_ops.proofs.reasons.latest.Given as goal

abbrev pub invariant-loop-place : goal.invariant-loop-place
invariant-loop-place g l = l.last ≡ latest l.created (completed (seen_at (state_at (g.L.Look.states l.look))) (take l.place-index l.places))
