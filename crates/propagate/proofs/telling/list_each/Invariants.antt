use Rattle.propagate.specs.Telling.{AreListed}
use Rattle.propagate.proofs.telling.list_each.Given as goal

abbrev pub invariant-loop-at : goal.invariant-loop-at
invariant-loop-at g l = AreListed l.order.graph.places l.level l.changed l.at l.told.items
