use Rattle.std.proofs.Common.{arith}
use Rattle.std.proofs.lemmas.Int.{ints}
use Rattle.trace_relations.proofs.placing.middle.Goals as goal

pub overflow_add-sum : goal.overflow_add-sum
overflow_add-sum c = omega (arith, ints)
