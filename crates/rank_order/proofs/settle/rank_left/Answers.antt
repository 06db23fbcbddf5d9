use Rattle.std.proofs.Common.{sym, ap, ◌∙◌, slice_index}
use Rattle.stage_graph.specs.Walk.{above_all}
use Rattle.rank_order.proofs.PutBack.{left_out, left_stays}
use Rattle.rank_order.proofs.settle.rank_left.Goals as goal

pub returns-then-is_among : goal.returns-then-is_among
returns-then-is_among g c =
    sym (ap (above_all (slice_index (g.K.Keeps.items c.args.ranks.now))) (left_out c.args.graph.now.places c.args.out.now c.args.place (sym c.is_among.ensures ∙ c.if-is_among.true)))

pub returns : goal.returns
returns g c =
    c.rank_by_feeds.ensures
    ∙ sym (ap (above_all (slice_index (g.K.Keeps.items c.args.ranks.now))) (left_stays c.args.graph.now.places c.args.out.now c.args.place (sym c.is_among.ensures ∙ c.if-is_among.false)))
