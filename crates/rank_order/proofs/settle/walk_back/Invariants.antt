use Rattle.std.proofs.Common.{slice_index}
use Rattle.rank_order.proofs.WalkBack.{IsOnWalk}
use Rattle.rank_order.proofs.settle.walk_back.Given as goal

abbrev pub invariant-loop-place : goal.invariant-loop-place
invariant-loop-place g l = IsOnWalk l.graph.places (slice_index (g.K.Keeps.items l.before)) (slice_index (g.K.Keeps.items l.ranks)) l.first l.place l.path.items

-- back to lower ranks before the change
abbrev pub decreases-loop-place : goal.decreases-loop-place
decreases-loop-place g l = slice_index (g.K.Keeps.items l.before) l.place
