use Rattle.std.proofs.Common.{ℕ, ◌-◌, Bool, length}
use Rattle.trace_relations.specs.FreePlaces.{AreFree}
use Rattle.trace_relations.proofs.FreeRows.{AreTaken}
use Rattle.trace_relations.proofs.free_places.FreePlaces.first_from.Given as goal

-- no place on the way is free
abbrev pub invariant-way : goal.invariant-way
invariant-way l = (count : ℕ) (free : ℕ → Bool) → AreFree l.self count free → AreTaken count free l.from l.place

abbrev pub decreases-way : goal.decreases-way
decreases-way l = length l.self.next.items - l.place
