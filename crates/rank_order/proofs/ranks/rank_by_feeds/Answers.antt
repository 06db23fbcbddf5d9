use Rattle.std.proofs.Common.{ap, ◌∙◌, slice_index}
use Rattle.rank_order.proofs.Above.{above_of_both}
use Rattle.stage_graph.specs.Walk.{above_all}
use Rattle.rank_order.proofs.ranks.rank_by_feeds.Goals as goal

pub returns : goal.returns
returns g c =
    let ranks = slice_index (g.K.Keeps.items c.args.ranks.now) in
    rw (← c.in-Some.ensures.stage) (above_of_both ranks c.in-Some.stage.now.sources c.in-Some.stage.now.inner c.above.result c.above-2.result c.max.result
    (c.above.ensures ∙ ap (above_all ranks) c.as_slice.ensures) (c.above-2.ensures ∙ ap (above_all ranks) c.as_slice-2.ensures) c.max.ensures)
