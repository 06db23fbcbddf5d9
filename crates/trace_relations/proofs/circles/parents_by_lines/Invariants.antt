use Rattle.std.proofs.Common.{◌≡◌, map}
use Rattle.std.specs.List.{range_with_len}
use Rattle.trace_relations.specs.Lines.{parent_by_lines}
use Rattle.trace_relations.proofs.circles.parents_by_lines.Given as goal

-- those so far
abbrev pub invariant-loop-place : goal.invariant-loop-place
invariant-loop-place l = l.others.items ≡ map (parent_by_lines l.lines l.parents) (range_with_len 0 l.place)
