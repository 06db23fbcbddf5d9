use Rattle.std.proofs.Common.{◌≡◌, ◌-◌, ◌++◌, drop, length, map, reverse}
use Rattle.trace_stages.specs.Visits.{entering}
use Rattle.trace_stages.proofs.tour.touring.put_first.Given as goal

-- the last ones so far
abbrev pub invariant-loop-passed : goal.invariant-loop-passed
invariant-loop-passed l = reverse l.coming.items ≡ map (entering l.generations) (drop (length l.places - l.passed) l.places) ++ reverse l.fn.coming.items
