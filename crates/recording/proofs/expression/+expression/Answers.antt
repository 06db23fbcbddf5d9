use Rattle.recording.proofs.Operands.{wrong_count}
use Rattle.recording.specs.declared.expression.Word.TheVariants.{Binary, If, IsNull}
use Rattle.recording.proofs.expression.+expression.Goals as goal

pub read_form-returns-in_default-pair : goal.read_form-returns-in_default-pair
read_form-returns-in_default-pair t c = rw c.in-Binary.is (wrong_count (Binary c.in-Binary.operator) c.args.operands c.in_default-pair.ensures)

pub read_form-returns-in_default-triple : goal.read_form-returns-in_default-triple
read_form-returns-in_default-triple t c = rw c.in-If.is (wrong_count If c.args.operands c.in_default-triple.ensures)

pub read_form-returns-in_default-only : goal.read_form-returns-in_default-only
read_form-returns-in_default-only t c = rw c.in-IsNull.is (wrong_count IsNull c.args.operands c.in_default-only.ensures)
