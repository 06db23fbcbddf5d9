use Rattle.std.proofs.Common.{◌≡◌, map}
use Rattle.std.specs.List.{range_with_len}
use Rattle.trace_relations.specs.Relations.{plain}
use Rattle.trace_stages.specs.Bounds.{bound}
use Rattle.trace_stages.proofs.bounds.bounds_of.Given as goal

-- those so far
abbrev pub invariant-loop-place : goal.invariant-loop-place
invariant-loop-place l = l.bounds.items ≡ map (bound (plain l.relations)) (range_with_len 0 l.place)
