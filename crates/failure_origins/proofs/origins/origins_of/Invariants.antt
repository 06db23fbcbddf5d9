use Rattle.std.proofs.Common.{take}
use Rattle.failure_origins.proofs.Arising.{AreOriginsSoFar}
use Rattle.failure_origins.proofs.origins.origins_of.Given as goal

abbrev pub invariant-loop-place : goal.invariant-loop-place
invariant-loop-place g l = AreOriginsSoFar l.version.graph (take l.place-index l.place-items) l.origins.items
