use Rattle.std.proofs.Common.{sym, subst}
use Rattle.stage_graph.specs.Order.{IsClosedWalk, IsOrderFault}
use Rattle.stage_graph.proofs.Kept.{new_cycle}
use Rattle.stage_graph.proofs.graph.Graph.apply.Goals as goal

pub new_cycle-requires-clause-moved : goal.new_cycle-requires-clause-moved
new_cycle-requires-clause-moved g c κs within =
    new_cycle c.args.edits.now c.args.self.now c.in-Ok.graph c.in-Ok.ensures.kept c.requires c.as_slice.result.now
    (subst (IsClosedWalk c.in-Ok.graph.places) (sym c.as_slice.ensures)
    (subst (IsOrderFault c.in-Ok.graph.places) c.in-Err-Cycle.field-0-is c.in-Err-Cycle.ensures.fault))
