use Rattle.std.proofs.Common.{◌≡◌, ◌++◌, List, Ok}
use Rattle.serde_json.specs.Events.{items_len}
use Rattle.trace_spans.specs.HalfMarks.{AreHalves}
use Rattle.trace_spans.specs.Halves.{ToldHalf}
use Rattle.trace_spans.specs.Members.{then_on}
use Rattle.trace_spans.specs.Zipkin.{spans_of_items}
use Rattle.trace_spans.proofs.zipkin.add_items.Given as goal

-- what was read so far, and what the spans that are left are, whatever the halves are
abbrev pub invariant-loop-item : goal.invariant-loop-item
invariant-loop-item l =
    (known : List ToldHalf) → AreHalves l.halves.all known
    → then_on (spans_of_items known l.fn.items) (λ all. Ok (l.fn.spans ++ all)) ≡ then_on (spans_of_items known l.items) (λ rest. Ok (l.spans ++ rest))

abbrev pub decreases-loop-item : goal.decreases-loop-item
decreases-loop-item l = items_len l.items
