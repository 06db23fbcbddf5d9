use Rattle.std.proofs.Common.{ap, ◌∙◌, sym, is_some}
use Rattle.stage_graph.specs.Plain.{IsLive}
use Rattle.rank_order.proofs.Listed.{order_dependents}
use Rattle.rank_order.proofs.order.Order.dependents.Goals as goal

pub returns-in-Some : goal.returns-in-Some
returns-in-Some g c =
    let stage = rw c.deref.ensures at c.in-Some.ensures.stage in
    let live : IsLive c.self.inside.graph.places c.args.place = ap is_some (sym stage) in
    rw (← c.self.view_is) (c.dependents_at.ensures ∙ order_dependents _ c.self.invariant c.args.place live, live)
