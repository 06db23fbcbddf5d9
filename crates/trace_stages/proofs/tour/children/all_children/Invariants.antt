use Rattle.std.proofs.Common.{◌≡◌, length, take, vec_len}
use Rattle.trace_stages.specs.Visits.{HasChildren}
use Rattle.trace_stages.proofs.tour.children.all_children.Given as goal

-- the children so far
abbrev pub invariant-loop-place : goal.invariant-loop-place
invariant-loop-place l = (vec_len l.all ≡ length l.parents) × HasChildren l.parents (take l.place-index l.order) l.all.items
