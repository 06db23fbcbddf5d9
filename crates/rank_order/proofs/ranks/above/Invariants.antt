use Rattle.std.proofs.Common.{◌≡◌, take, slice_index}
use Rattle.stage_graph.specs.Walk.{above_all}
use Rattle.rank_order.proofs.ranks.above.Given as goal

abbrev pub invariant-loop-feed : goal.invariant-loop-feed
invariant-loop-feed g l = l.above ≡ above_all (slice_index (g.K.Keeps.items l.ranks)) (take l.feed-index l.feeds)
