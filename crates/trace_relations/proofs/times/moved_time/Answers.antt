use Rattle.std.proofs.Common.{arith}
use Rattle.std.proofs.lemmas.Int.{ints}
use Rattle.trace_relations.proofs.times.moved_time.Goals as goal

pub overflow_add-moved : goal.overflow_add-moved
overflow_add-moved c = omega (arith, ints)
