use Rattle.std.proofs.Common.{◌^◌, arith}
use Rattle.std.proofs.lemmas.Int.{ints}
use Rattle.trace_relations.specs.KeptMoves.{IsAtMost}
use Rattle.trace_relations.proofs.Finding.{if_some}
use Rattle.trace_relations.proofs.placing.below.Goals as goal

pub overflow_sub-below : goal.overflow_sub-below
overflow_sub-below c = let most : IsAtMost (2 ^ 64) c.in-Some.most = if_some (2 ^ 64) c.args.bound c.in-Some.most c.in-Some.is c.requires.bound in omega (arith, ints)
