use Rattle.trace_spans.proofs.Marking.{AreChosen}
use Rattle.trace_spans.proofs.choice.spans_of_trace.Given as goal

-- the spans so far that count, and their marks
abbrev pub invariant-loop-span : goal.invariant-loop-span
invariant-loop-span l = AreChosen l.trace l.marks l.chosen l.yielded
