use Rattle.std.proofs.Common.{◌≡◌, List}
use Rattle.trace_spans.specs.declared.span.Span.{Span}
use Rattle.trace_relations.specs.ClockNumbers.{AreClocks}
use Rattle.trace_relations.proofs.Clocked.{moved_before, moved_by}
use Rattle.trace_relations.proofs.placing.all_moved.Given as goal

-- those of the spans so far
abbrev pub invariant-loop-place : goal.invariant-loop-place
invariant-loop-place l = (spans : List Span) → AreClocks spans l.clocks → l.moved.items ≡ moved_before spans (moved_by spans l.moves) l.place
