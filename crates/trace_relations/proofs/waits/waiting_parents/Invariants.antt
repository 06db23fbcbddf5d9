use Rattle.std.proofs.Common.{◌≡◌, map}
use Rattle.std.specs.List.{range_with_len}
use Rattle.trace_relations.specs.Waits.{waiting_parent}
use Rattle.trace_relations.proofs.waits.waiting_parents.Given as goal

-- those so far
abbrev pub invariant-loop-place : goal.invariant-loop-place
invariant-loop-place l = l.waiting.items ≡ map (waiting_parent l.spans l.intervals l.references l.parents) (range_with_len 0 l.place)
