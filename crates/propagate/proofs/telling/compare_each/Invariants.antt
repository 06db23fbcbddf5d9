use Rattle.propagate.specs.Telling.{AreCompared}
use Rattle.propagate.proofs.telling.compare_each.Given as goal

abbrev pub invariant-loop-at : goal.invariant-loop-at
invariant-loop-at g l = AreCompared l.states l.level l.results l.at l.changed.items
