use Rattle.std.proofs.Common.{◌≡◌, take}
use Rattle.trace_spans.specs.Summaries.{end_of, start_of}
use Rattle.trace_spans.proofs.summary.summary_of.Given as goal

-- the times of the spans so far
abbrev pub invariant-loop-span : goal.invariant-loop-span
invariant-loop-span l = (l.start ≡ start_of (take l.span-index l.spans)) × (l.end ≡ end_of (take l.span-index l.spans))
