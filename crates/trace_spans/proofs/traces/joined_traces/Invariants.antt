use Rattle.std.proofs.Common.{◌≡◌, ◌++◌}
use Rattle.trace_spans.specs.Traces.{spans_in}
use Rattle.trace_spans.proofs.traces.joined_traces.Given as goal

-- the spans of the parts so far, and the parts that are left
abbrev pub invariant-loop-part : goal.invariant-loop-part
invariant-loop-part l =
    (l.initial.part-iterator.rest.items ≡ l.yielded ++ l.part-iterator.rest.items) × (l.spans ≡ spans_in l.yielded)
