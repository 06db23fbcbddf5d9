use Rattle.std.proofs.Common.{◌≡◌, ◌++◌, length}
use Rattle.trace_stages.specs.Visits.{pending, visits}
use Rattle.trace_stages.proofs.tour.touring.visits_of.Given as goal

-- the visits so far, and those to come
abbrev pub invariant-loop-next : goal.invariant-loop-next
invariant-loop-next l = l.visits.items ++ pending l.parents l.order l.coming.items ≡ visits l.parents l.order

abbrev pub decreases-loop-next : goal.decreases-loop-next
decreases-loop-next l = length (pending l.parents l.order l.coming.items)
