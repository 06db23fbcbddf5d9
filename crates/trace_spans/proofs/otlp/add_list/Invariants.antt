use Rattle.std.proofs.Common.{◌≡◌, ◌++◌, Ok}
use Rattle.serde_json.specs.Events.{items_len}
use Rattle.trace_spans.specs.Members.{then_on}
use Rattle.trace_spans.specs.Otlp.{spans_of_resources}
use Rattle.trace_spans.proofs.otlp.add_list.Given as goal

-- what was read so far, and what the resources that are left are
abbrev pub invariant-loop-resource : goal.invariant-loop-resource
invariant-loop-resource l = then_on (spans_of_resources l.list l.initial.resources) (λ all. Ok (l.fn.spans ++ all)) ≡ then_on (spans_of_resources l.list l.resources) (λ rest. Ok (l.spans ++ rest))

abbrev pub decreases-loop-resource : goal.decreases-loop-resource
decreases-loop-resource l = items_len l.resources
