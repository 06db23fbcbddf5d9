use Rattle.std.proofs.Common.{◌∙◌, true, ap}
use Rattle.trace_relations.specs.KeptMoves.{moves_in, narrowed_by_numbers}
use Rattle.trace_relations.proofs.Narrowing.{range_by_numbers}
use Rattle.trace_relations.proofs.placing.range_of.Goals as goal

pub returns : goal.returns
returns c =
    range_by_numbers (moves_in c.args.moves.now) c.args.clock c.args.pairs.now c.args.numbers.now c.narrowed_by-of_whole.result c.narrowed_by.result c.requires.numbers
    (c.narrowed_by-of_whole.ensures ∙ ap (narrowed_by_numbers (moves_in c.args.moves.now) c.args.clock c.args.pairs.now c.args.numbers.now true) c.everything.ensures) c.narrowed_by.ensures
