use Rattle.std.proofs.Common.{◌≡◌}
use Rattle.serde_json.specs.Events.{items_len}
use Rattle.trace_spans.specs.Zipkin.{are_spans}
use Rattle.trace_spans.proofs.zipkin.are_spans.Given as goal

-- all so far are spans
abbrev pub invariant-loop-item : goal.invariant-loop-item
invariant-loop-item l = are_spans l.fn.items ≡ are_spans l.items

abbrev pub decreases-loop-item : goal.decreases-loop-item
decreases-loop-item l = items_len l.items
