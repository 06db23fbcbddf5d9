use Rattle.std.proofs.Common.{◌≡◌, take}
use Rattle.trace_relations.specs.KeptMoves.{moves_in, narrowed_by_numbers}
use Rattle.trace_relations.proofs.placing.narrowed_by.Given as goal

-- what the pairs so far say
abbrev pub invariant-loop-number : goal.invariant-loop-number
invariant-loop-number l = l.range ≡ narrowed_by_numbers (moves_in l.moves) l.clock l.pairs (take l.number-index l.numbers) l.are_whole l.fn.range
