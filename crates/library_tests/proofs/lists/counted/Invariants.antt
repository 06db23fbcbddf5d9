use Rattle.std.proofs.Common.{◌≡◌, length}
use Rattle.library_tests.proofs.lists.counted.Given as goal

abbrev pub invariant-loop-item : goal.invariant-loop-item
invariant-loop-item g l = length (g.K.Keeps.items l.kept) ≡ l.item
