use Rattle.std.proofs.Common.{◌≡◌, ◌++◌, drop}
use Rattle.std.specs.Prelude.{filter_map}
use Rattle.version_rows.specs.Drawings.{row_index}
use Rattle.version_rows.proofs.rows.indices_of.Given as goal

-- what was found and what is left make the whole
abbrev pub invariant-loop-place : goal.invariant-loop-place
invariant-loop-place l = l.indices.items ++ filter_map (row_index l.lines) (drop l.place-index l.path) ≡ filter_map (row_index l.lines) l.path
