use Rattle.std.proofs.Common.{◌≡◌, map, take}
use Rattle.version_rows.specs.Rows.{plain, row_of}
use Rattle.version_rows.proofs.rows.rows_of.Given as goal

-- the rows so far
abbrev pub invariant-loop-line : goal.invariant-loop-line
invariant-loop-line g l = map plain l.rows.items ≡ map (row_of l.version.graph) (take l.line-index l.lines)
