use Rattle.recording.proofs.Sizes.{size, items_size}
use Rattle.recording.proofs.expression.+expression.Given as goal

-- what is in a value is smaller than the value
abbrev pub decreases-read_form : goal.decreases-read_form
decreases-read_form l = items_size l.operands

abbrev pub decreases-read_expression : goal.decreases-read_expression
decreases-read_expression l = size l.value.now
