use Rattle.std.proofs.Common.{◌≡◌, take}
use Rattle.report_rows.specs.Names.{bytes_of, names_at}
use Rattle.report_rows.proofs.names.Names.at.Given as goal

-- the names so far
abbrev pub invariant-loop-place : goal.invariant-loop-place
invariant-loop-place g l = bytes_of l.names.items ≡ names_at l.graph (take l.place-index l.places)
