use Rattle.std.proofs.Common.{◌≡◌, ℕ, [], vec_len}
use Rattle.trace_stages.specs.Visits.{children_at}
use Rattle.trace_stages.proofs.tour.children.no_children.Given as goal

-- so many spans have none
abbrev pub invariant-loop-place : goal.invariant-loop-place
invariant-loop-place l = (vec_len l.all ≡ l._place) × ((place : ℕ) → children_at l.all.items place ≡ [])
