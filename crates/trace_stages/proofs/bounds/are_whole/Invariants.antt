use Rattle.std.proofs.Common.{◌≡◌, ℕ, ◌<◌, None}
use Rattle.trace_relations.specs.Relations.{plain}
use Rattle.trace_stages.specs.BoundLines.{line_at}
use Rattle.trace_stages.proofs.bounds.are_whole.Given as goal

-- no span comes after the lines so far
abbrev pub invariant-loop-place : goal.invariant-loop-place
invariant-loop-place l = (place : ℕ) → place < l.place → (line_at (plain l.relations) l.lines place).after ≡ None
