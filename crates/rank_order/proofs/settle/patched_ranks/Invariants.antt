use Rattle.std.proofs.Common.{◌≡◌, ◌≤◌, ◌+◌, ℕ, length, take, drop, slice_index}
use Rattle.rank_order.specs.Ranking.{feeds_left, AreRanksBut}
use Rattle.rank_order.proofs.settle.patched_ranks.Given as goal

-- without the places that are still to be put back, the ranks are right except at the next of them
abbrev pub invariant-loop-turn : goal.invariant-loop-turn
invariant-loop-turn g l =
    let ranks = slice_index (g.K.Keeps.items l.ranks) in
    record {
      right : AreRanksBut (take 1 (drop l.turn l.moved)) (feeds_left l.graph.places (drop (l.turn + 1) l.moved)) ranks;
      long : length (g.K.Keeps.items l.ranks) ≡ length l.graph.places;
      small : (place : ℕ) → ranks place ≤ length l.graph.places;
    }
