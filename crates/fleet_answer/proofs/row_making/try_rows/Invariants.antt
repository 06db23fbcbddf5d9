use Rattle.std.proofs.Common.{take}
use Rattle.std.specs.List.{AllZip}
use Rattle.fleet_answer.specs.Rows.{IsTryRow}
use Rattle.fleet_answer.proofs.row_making.try_rows.Given as goal

-- the rows so far
abbrev pub invariant-loop-tried : goal.invariant-loop-tried
invariant-loop-tried l = AllZip IsTryRow (take l.tried-index l.tries) l.rows.items
