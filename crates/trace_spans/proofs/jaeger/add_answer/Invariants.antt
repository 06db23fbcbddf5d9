use Rattle.std.proofs.Common.{◌≡◌, ◌++◌, Ok}
use Rattle.serde_json.specs.Events.{items_len}
use Rattle.trace_spans.specs.Members.{then_on}
use Rattle.trace_spans.specs.Jaeger.{spans_of_traces}
use Rattle.trace_spans.proofs.jaeger.add_answer.Given as goal

-- what was read so far, and what the traces that are left are
abbrev pub invariant-loop-trace : goal.invariant-loop-trace
invariant-loop-trace l = then_on (spans_of_traces l.initial.traces) (λ all. Ok (l.fn.spans ++ all)) ≡ then_on (spans_of_traces l.traces) (λ rest. Ok (l.spans ++ rest))

abbrev pub decreases-loop-trace : goal.decreases-loop-trace
decreases-loop-trace l = items_len l.traces
