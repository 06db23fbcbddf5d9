use Rattle.std.proofs.Common.{◌≡◌, option_map, take}
use Rattle.trace_spans.specs.Summaries.{root_of}
use Rattle.trace_spans.proofs.summary.root_of.Given as goal

-- the root of the spans so far
abbrev pub invariant-loop-span : goal.invariant-loop-span
invariant-loop-span l = option_map (λ span. span.now) l.root ≡ root_of (take l.span-index l.spans)
