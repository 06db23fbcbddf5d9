-- The passes so far are those of the places so far, and the meter has counted them.
use Rattle.std.proofs.Common.{◌≡◌, ◌+◌, take}
use Rattle.propagate.proofs.levels.take_passes.Given as goal

abbrev pub invariant-loop-place : goal.invariant-loop-place
invariant-loop-place g l = (l.passes.items ≡ take l.place-index l.level) × (l.meter ≡ l.initial.meter + l.place-index)
