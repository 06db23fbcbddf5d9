use Rattle.std.proofs.Common.{arith, get_or, refl}
use Rattle.trace_relations.specs.KeptMoves.{moves_in}
use Rattle.trace_relations.proofs.Narrowing.{narrowed_more}
use Rattle.trace_relations.proofs.placing.narrowed_by.Goals as goal

pub loop-number-preserved : goal.loop-number-preserved
loop-number-preserved c =
    narrowed_more (moves_in c.args.moves.now) c.args.clock c.args.pairs.now c.args.numbers.now c.loop-number.number-index (get_or c.args.numbers.now c.loop-number.number-index 0) c.args.are_whole c.args.range c.loop-number.range c.narrowed_at-range.result (omega arith) refl c.loop-number.invariant c.narrowed_at-range.ensures
