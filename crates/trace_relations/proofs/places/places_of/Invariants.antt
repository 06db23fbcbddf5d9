use Rattle.trace_relations.proofs.Meanings.{IsPlacedFrom}
use Rattle.trace_relations.proofs.places.places_of.Given as goal

-- the first place of an id is that so far, or in what is left
abbrev pub invariant-loop-place : goal.invariant-loop-place
invariant-loop-place l = IsPlacedFrom l.spans l.place l.places
