-- The first tick of the rows.
use Rattle.std.proofs.Common.{◌-◌, ◌^◌, ◌≤◌, List, [], ◌∷◌, arith}
use Rattle.timeline_svg.specs.declared.row.Row.{Row}
use Rattle.timeline_svg.specs.Spans.{first_tick}

-- no tick is later than the greatest number of 64 bits
pub first_bound : (rows : List Row) → first_tick rows ≤ 2 ^ 64 - 1
first_bound [] = omega arith
first_bound (row ∷ rows) = omega (arith, first_bound rows)
