use Rattle.std.proofs.Common.{◌≤◌, ◌∙◌, length, take, get_or, arith}
use Rattle.rank_order.proofs.Building.{found_none, found_small, found_more, found_all}
use Rattle.rank_order.proofs.build.ranks_of.Goals as goal

pub loop-place-init : goal.loop-place-init
loop-place-init g c =
    found_none c.args.graph.now.places (g.R.Ranks.Keeps.items c.in_ok-ranks.ranks) (c.in_ok-ranks.ensures.long ∙ c.len.ensures.len)
    (rw c.empty.ensures at c.in_ok-ranks.ensures.each)

pub rank_by_feeds-rank-requires-after_bounds : goal.rank_by_feeds-rank-requires-after_bounds
rank_by_feeds-rank-requires-after_bounds g c κs inside place =
    let low : get_or (g.R.Ranks.Keeps.items c.loop-place.ranks) place 0 ≤ length c.args.graph.now.places =
    found_small c.args.graph.now.places (take c.loop-place.place-index c.as_slice-place-items.result.now) (g.R.Ranks.Keeps.items c.loop-place.ranks) c.loop-place.invariant place in
    omega (arith, low, c.len.ensures.sound.few)

pub loop-place-preserved : goal.loop-place-preserved
loop-place-preserved g c =
    let order = c.as_slice-place-items.result.now in
    let first = rw (← c.as_slice-place-items.ensures) at c.in_ok-order.ensures in
    rw c.in_ok-write.ensures.ok (found_more c.args.graph.now.places order c.loop-place.place-index (g.R.Ranks.Keeps.items c.loop-place.ranks) c.rank_by_feeds-rank.result
    c.requires first c.loop-place-test.true c.loop-place.invariant c.rank_by_feeds-rank.ensures)

pub returns : goal.returns
returns g c =
    let first = rw (← c.as_slice-place-items.ensures) at c.in_ok-order.ensures in
    found_all c.args.graph.now.places c.as_slice-place-items.result.now c.loop-place.place-index (g.R.Ranks.Keeps.items c.loop-place.ranks) first c.loop-place-test.false c.loop-place.invariant
