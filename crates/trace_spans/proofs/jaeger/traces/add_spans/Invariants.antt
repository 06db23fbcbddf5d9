use Rattle.std.proofs.Common.{◌≡◌, ◌++◌, Ok, option_map}
use Rattle.serde_json.specs.Events.{items_len}
use Rattle.trace_spans.specs.Jaeger.{spans_of_items}
use Rattle.trace_spans.specs.Members.{then_on}
use Rattle.trace_spans.proofs.jaeger.traces.add_spans.Given as goal

-- what was read so far, and what the items that are left are
abbrev pub invariant-loop-item : goal.invariant-loop-item
invariant-loop-item l =
    then_on (spans_of_items (option_map (λ p. p.now) l.processes) l.fn.items) (λ all. Ok (l.fn.spans ++ all)) ≡ then_on (spans_of_items (option_map (λ p. p.now) l.processes) l.items) (λ rest. Ok (l.spans ++ rest))

abbrev pub decreases-loop-item : goal.decreases-loop-item
decreases-loop-item l = items_len l.items
