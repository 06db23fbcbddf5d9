use Rattle.std.proofs.Common.{◌≡◌, List, [], length, replicate, None, heap_items}
use Rattle.trace_spans.specs.declared.span.Span.{Span}
use Rattle.trace_relations.specs.declared.clocks.Pair.{Pair}
use Rattle.trace_relations.specs.ClockNumbers.{AreClocks}
use Rattle.trace_relations.specs.KeptMoves.{HasPairs, HasRoots}
use Rattle.trace_relations.specs.Parents.{all_references}
use Rattle.trace_relations.proofs.placing.place_roots.Given as goal

-- the clocks of the spans so far
abbrev pub invariant-loop-place : goal.invariant-loop-place
invariant-loop-place l =
    (spans : List Span) (pairs : List Pair) → l.references ≡ all_references spans → AreClocks spans l.clocks → HasPairs (length spans) pairs l.by_clock → l.fn.moves.items ≡ replicate (length spans) None → heap_items l.fn.coming ≡ []
    → HasRoots spans pairs l.place l.moves.items (heap_items l.coming)
