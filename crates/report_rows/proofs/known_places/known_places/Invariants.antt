use Rattle.std.proofs.Common.{take}
use Rattle.report_rows.specs.Known.{Knows}
use Rattle.report_rows.proofs.known_places.known_places.Given as goal

-- those so far
abbrev pub invariant-loop-place : goal.invariant-loop-place
invariant-loop-place l = Knows l.known (take l.place-index l.places)
