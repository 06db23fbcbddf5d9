use Rattle.std.proofs.Common.{◌≡◌, drop}
use Rattle.trace_spans.specs.Choice.{traces_of, with_traces}
use Rattle.trace_spans.proofs.choice.traces_of.Given as goal

-- those so far, and those that the spans that are left add
abbrev pub invariant-loop-span : goal.invariant-loop-span
invariant-loop-span l = traces_of l.beginning l.spans ≡ with_traces l.beginning l.traces (drop l.span-index l.spans)
