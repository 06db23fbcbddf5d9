use Rattle.std.proofs.Common.{◌≡◌}
use Rattle.fleet_tries.specs.Pieces.{ticks_before}
use Rattle.fleet_tries.proofs.pieces.ticks_before.Given as goal

-- the ticks so far
abbrev pub invariant-loop-other : goal.invariant-loop-other
invariant-loop-other g l = l.sum ≡ ticks_before l.version.graph l.work.stages.now l.work.time l.work.span l.other
