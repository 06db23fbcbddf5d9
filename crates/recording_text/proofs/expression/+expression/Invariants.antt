use Rattle.std.proofs.Common.{◌+◌, ◌*◌}
use Rattle.act_expr.specs.Expression.{nodes}
use Rattle.recording_text.proofs.expression.+expression.Given as goal

abbrev pub decreases-push_expression : goal.decreases-push_expression
decreases-push_expression l = 2 * nodes l.expression.now

abbrev pub decreases-push_binary : goal.decreases-push_binary
decreases-push_binary l = 2 * (nodes l.left.now + nodes l.right.now) + 1

abbrev pub decreases-push_conditional : goal.decreases-push_conditional
decreases-push_conditional l = 2 * (nodes l.condition.now + nodes l.first.now + nodes l.second.now) + 1

abbrev pub decreases-push_is_null : goal.decreases-push_is_null
decreases-push_is_null l = 2 * nodes l.operand.now + 1
