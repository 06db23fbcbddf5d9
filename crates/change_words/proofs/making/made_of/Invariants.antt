use Rattle.std.proofs.Common.{◌≡◌, drop}
use Rattle.change_words.specs.Making.{made_of}
use Rattle.change_words.proofs.making.made_of.Given as goal

-- what all changes make is what those that are left make of the graph by now
abbrev pub invariant-loop-change : goal.invariant-loop-change
invariant-loop-change g l =
    made_of l.changes (record { edits = l.fn.edits.items; graph = l.fn.made }) ≡ made_of (drop l.change-index l.changes) (record { edits = l.edits.items; graph = l.graph })
