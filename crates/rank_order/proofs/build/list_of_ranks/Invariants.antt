use Rattle.std.proofs.Common.{◌≡◌, take}
use Rattle.rank_order.proofs.build.list_of_ranks.Given as goal

-- the ranks so far
abbrev pub invariant-loop-rank : goal.invariant-loop-rank
invariant-loop-rank g l = g.R.Ranks.Keeps.items l.list ≡ take l.rank-index l.ranks
