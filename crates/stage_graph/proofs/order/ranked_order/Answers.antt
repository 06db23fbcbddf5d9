use Rattle.stage_graph.specs.Order.{IsClosedWalk}
use Rattle.stage_graph.proofs.Ranked.{not_ranked_from_closed_walk}
use Rattle.stage_graph.proofs.order.ranked_order.Goals as goal

pub unreachable-requires : goal.unreachable-requires
unreachable-requires g c =
    let places = c.args.graph.now.places in
    let path = c.in-Err-Cycle.field-0-0 in
    let closed : IsClosedWalk places path = rw c.in-Err-Cycle.field-0-is at c.in-Err-Cycle.ensures.fault in
    not_ranked_from_closed_walk places path closed c.requires
