use Rattle.std.proofs.Common.{take}
use Rattle.rank_order.proofs.Building.{AreRanksSoFar}
use Rattle.rank_order.proofs.build.ranks_of.Given as goal

abbrev pub invariant-loop-place : goal.invariant-loop-place
invariant-loop-place g l = AreRanksSoFar l.graph.places (take l.place-index l.place-items) (g.R.Ranks.Keeps.items l.ranks)
