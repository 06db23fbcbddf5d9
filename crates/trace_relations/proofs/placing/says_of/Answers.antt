use Rattle.std.proofs.Common.{◌^◌, arith, sym}
use Rattle.std.proofs.lemmas.Int.{ints}
use Rattle.trace_relations.specs.KeptMoves.{IsAtMost}
use Rattle.trace_relations.proofs.Moving.{move_at}
use Rattle.trace_relations.proofs.placing.says_of.Goals as goal

pub of_called-requires-clause-by : goal.of_called-requires-clause-by
of_called-requires-clause-by c =
    let by : IsAtMost (2 ^ 100) c.in-Some.by = move_at (2 ^ 100) c.args.moves.now c.args.pair.now.caller c.in-Some.by c.requires.moves (sym c.in-Some.ensures) in
    (omega (arith, ints), omega (arith, ints))

pub of_caller-requires-clause-by : goal.of_caller-requires-clause-by
of_caller-requires-clause-by c =
    let by : IsAtMost (2 ^ 100) c.in-Some-move_of.by = move_at (2 ^ 100) c.args.moves.now c.args.pair.now.called c.in-Some-move_of.by c.requires.moves (sym c.in-Some-move_of.ensures) in
    (omega (arith, ints), omega (arith, ints))
