use Rattle.std.proofs.Common.{◌≡◌, take}
use Rattle.trace_stages.specs.Visits.{roots}
use Rattle.trace_stages.proofs.tour.children.roots.Given as goal

-- those so far
abbrev pub invariant-loop-place : goal.invariant-loop-place
invariant-loop-place l = l.places.items ≡ roots l.parents (take l.place-index l.order)
