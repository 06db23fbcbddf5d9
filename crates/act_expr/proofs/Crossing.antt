-- Which types of expressions may be sent to another thread.
use denote.Param.Send.{IsSend, IsSync, sendable}
use Rattle.std.proofs.Crossing.{crosses}
use Rattle.act_expr.specs.contracts.expr.Expr as expr
use Rattle.act_expr.proofs.expr.Expr.TheLaws.TheKnot as knot

pub expr_send : IsSend expr.the_row
expr_send = search (sendable, crosses, knot.crosses) depth 60 fits 100000

pub expr_sync : IsSync expr.the_row
expr_sync = search (sendable, crosses, knot.crosses) depth 60 fits 100000
