use Rattle.std.proofs.Common.{ap, ◌∙◌, ◌+◌, slice_index}
use Rattle.std.specs.Ordering.{ord_max, nat_cmp}
use Rattle.rank_order.proofs.Above.{above_more}
use Rattle.rank_order.proofs.ranks.above.Goals as goal

pub loop-feed-preserved : goal.loop-feed-preserved
loop-feed-preserved g c =
    let ranks = slice_index (g.K.Keeps.items c.args.ranks.now) in
    above_more ranks c.args.feeds.now c.loop-feed.feed-index c.rank_at.result c.max-above.result c.loop-feed-test.true c.rank_at.ensures
    (c.max-above.ensures ∙ ap (λ n. ord_max nat_cmp n (c.rank_at.result + 1)) c.loop-feed.invariant)
