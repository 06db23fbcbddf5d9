use Rattle.std.proofs.Common.{length, heap_items}
use Rattle.trace_relations.specs.KeptMoves.{Stand}
use Rattle.trace_relations.proofs.Reaching.{LeadsOn, left_of}
use Rattle.trace_relations.proofs.placing.place_reached.Given as goal

-- those that are placed were placed one after another
abbrev pub invariant-loop-number : goal.invariant-loop-number
invariant-loop-number l = record {
  stand : Stand l.pairs (length l.fn.moves.items) l.moves.items (heap_items l.coming);
  leads : LeadsOn l.pairs l.fn.moves.items l.moves.items;
}

-- a clock is placed, or a pair fewer is coming
abbrev pub decreases-loop-number : goal.decreases-loop-number
decreases-loop-number l = left_of l.pairs l.moves.items (heap_items l.coming)
