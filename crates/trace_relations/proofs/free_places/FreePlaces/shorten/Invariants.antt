use Rattle.std.proofs.Common.{ℕ, ◌-◌, ◌≤◌, Bool}
use Rattle.trace_relations.specs.FreePlaces.{AreFree, IsFirstFrom}
use Rattle.trace_relations.proofs.free_places.FreePlaces.shorten.Given as goal

-- those on the way so far know the first free one
abbrev pub invariant-way : goal.invariant-way
invariant-way l = record {
  from : l.from ≤ l.place;
  free : (count : ℕ) (free : ℕ → Bool) → AreFree l.fn.self count free → IsFirstFrom count free l.from l.to → AreFree l.self count free;
}

abbrev pub decreases-way : goal.decreases-way
decreases-way l = l.to - l.place
