use Rattle.std.proofs.Common.{refl}
use Rattle.trace_spans.specs.Jaeger.{spans_of_trace, spans_of_traces}
use Rattle.trace_spans.proofs.Reading.{part_added}
use Rattle.trace_spans.proofs.jaeger.add_answer.Goals as goal

pub loop-trace-preserved : goal.loop-trace-preserved
loop-trace-preserved c =
    part_added spans_of_traces _ c.loop-trace.traces c.next.new.self c.in-Some.trace (spans_of_trace c.in-Some.trace) c.loop-trace.spans c.add_trace.new.spans
    c.loop-trace.invariant c.in-Some.ensures.value refl c.in_ok-add_trace.ensures
