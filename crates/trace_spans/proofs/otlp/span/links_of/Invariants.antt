use Rattle.std.proofs.Common.{◌≡◌, ◌++◌, Ok}
use Rattle.serde_json.specs.Events.{items_len}
use Rattle.trace_spans.specs.Members.{then_on}
use Rattle.trace_spans.specs.Otlp.{links_of}
use Rattle.trace_spans.proofs.otlp.span.links_of.Given as goal

-- what was read so far, and what the items that are left are
abbrev pub invariant-loop-link : goal.invariant-loop-link
invariant-loop-link l = links_of l.trace l.initial.items ≡ then_on (links_of l.trace l.items) (λ rest. Ok (l.links ++ rest))

abbrev pub decreases-loop-link : goal.decreases-loop-link
decreases-loop-link l = items_len l.items
