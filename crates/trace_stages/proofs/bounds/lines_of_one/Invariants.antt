use Rattle.std.proofs.Common.{◌≡◌, ℕ, ◌<◌, vec_len, Some}
use Rattle.std.specs.Prelude.{slice_get}
use Rattle.trace_relations.specs.Relations.{plain}
use Rattle.trace_stages.specs.BoundLines.{line_of_one}
use Rattle.trace_stages.proofs.bounds.lines_of_one.Given as goal

-- the lines so far
abbrev pub invariant-loop-place : goal.invariant-loop-place
invariant-loop-place l = (vec_len l.lines ≡ l.place) × ((place : ℕ) → place < l.place → slice_get l.lines.items place ≡ Some (line_of_one (plain l.relations) place))
