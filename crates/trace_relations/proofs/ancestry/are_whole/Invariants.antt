use Rattle.std.proofs.Common.{◌≡◌, ℕ, ◌<◌, None}
use Rattle.trace_relations.specs.Lines.{line_at}
use Rattle.trace_relations.proofs.ancestry.are_whole.Given as goal

-- no span comes after the lines so far
abbrev pub invariant-loop-place : goal.invariant-loop-place
invariant-loop-place l = (place : ℕ) → place < l.place → (line_at l.lines place).after ≡ None
