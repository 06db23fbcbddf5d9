use Rattle.std.proofs.Common.{◌≡◌, map, take}
use Rattle.trace_relations.proofs.starts.places_of.Given as goal

-- those so far
abbrev pub invariant-loop-start : goal.invariant-loop-start
invariant-loop-start l = l.places.items ≡ map (λ start. start.1) (take l._start-index l.starts)
