use Rattle.std.proofs.Common.{take, heap_items}
use Rattle.trace_relations.specs.KeptMoves.{HaveJoined}
use Rattle.trace_relations.proofs.placing.add_coming.Given as goal

-- the numbers so far
abbrev pub invariant-loop-number : goal.invariant-loop-number
invariant-loop-number l = HaveJoined (take l.number-index l.numbers) (heap_items l.fn.coming) (heap_items l.coming)
