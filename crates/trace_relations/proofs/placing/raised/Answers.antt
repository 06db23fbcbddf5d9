use Rattle.std.proofs.Common.{◌^◌, arith}
use Rattle.std.proofs.lemmas.Int.{ints}
use Rattle.trace_relations.specs.KeptMoves.{IsAtMost}
use Rattle.trace_relations.proofs.Finding.{if_some}
use Rattle.trace_relations.proofs.placing.raised.Goals as goal

pub overflow_add-raised : goal.overflow_add-raised
overflow_add-raised c = let most : IsAtMost (2 ^ 64) c.in-Some.most = if_some (2 ^ 64) c.args.bound c.in-Some.most c.in-Some.is c.requires.bound in omega (arith, ints)
