use Rattle.std.proofs.Common.{take}
use Rattle.stage_ops.specs.States.{seen_at, state_at}
use Rattle.stage_ops.specs.Usual.{AreNormal}
use Rattle.stage_ops.proofs.usual.latest.Given as goal

abbrev pub invariant-loop-place : goal.invariant-loop-place
invariant-loop-place g l = AreNormal l.created (seen_at (state_at (g.L.Look.states l.look))) (take l.place-index l.places) l.trigger
