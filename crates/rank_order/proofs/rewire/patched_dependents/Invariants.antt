use Rattle.std.proofs.Common.{length, take}
use Rattle.rank_order.specs.DependentLists.{AreDependentLists, uses_between}
use Rattle.rank_order.proofs.rewire.patched_dependents.Given as goal

abbrev pub invariant-loop-place : goal.invariant-loop-place
invariant-loop-place g l = AreDependentLists (uses_between l.old.places l.changed.places (take l.place-index l.moved)) (length l.changed.places) (g.K.Keeps.items l.lists)
