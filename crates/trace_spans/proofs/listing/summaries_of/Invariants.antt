use Rattle.std.proofs.Common.{◌≡◌, map, take}
use Rattle.trace_spans.specs.Summaries.{summary_of}
use Rattle.trace_spans.proofs.listing.summaries_of.Given as goal

-- the summaries of the traces so far
abbrev pub invariant-loop-trace : goal.invariant-loop-trace
invariant-loop-trace l = l.summaries.items ≡ map summary_of (take l.trace-index l.traces)
