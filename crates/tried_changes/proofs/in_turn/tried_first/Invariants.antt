use Rattle.std.proofs.Common.{◌≡◌, ◌∷◌, drop}
use Rattle.tried_changes.specs.InTurn.{made_in_turn}
use Rattle.tried_changes.proofs.in_turn.tried_first.Given as goal

-- what all changes make is what those that are left make of the graph by now
abbrev pub invariant-loop-change : goal.invariant-loop-change
invariant-loop-change g l = made_in_turn (l.first ∷ l.others) l.version.graph ≡ made_in_turn (drop l.change-index l.others) l.made.graph
