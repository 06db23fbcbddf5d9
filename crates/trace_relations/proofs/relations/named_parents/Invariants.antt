use Rattle.std.proofs.Common.{◌≡◌, map, take}
use Rattle.trace_relations.specs.Relations.{parent_meant}
use Rattle.trace_relations.proofs.relations.named_parents.Given as goal

-- those so far
abbrev pub invariant-loop-of_span : goal.invariant-loop-of_span
invariant-loop-of_span l = l.parents.items ≡ map parent_meant (take l.of_span-index l.references)
