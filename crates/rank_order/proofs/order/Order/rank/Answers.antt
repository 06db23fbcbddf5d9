use Rattle.std.proofs.Common.{ap, ◌∙◌, Ok}
use Rattle.rank_order.proofs.Listed.{order_rank}
use Rattle.rank_order.proofs.order.Order.rank.Goals as goal

pub returns-in-Some-clause-rank : goal.returns-in-Some-clause-rank
returns-in-Some-clause-rank g c =
    let stage = rw c.deref.ensures at c.in-Some.ensures.stage in
    rw (← c.self.view_is, ← stage) (ap Ok (c.rank_at.ensures ∙ order_rank _ c.self.invariant c.args.place))
