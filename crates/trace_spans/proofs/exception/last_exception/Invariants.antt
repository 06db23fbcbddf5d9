use Rattle.std.proofs.Common.{◌≡◌, Ok}
use Rattle.serde_json.specs.Events.{items_len}
use Rattle.trace_spans.specs.Members.{then_on}
use Rattle.trace_spans.specs.Exceptions.{last_exception, or_else}
use Rattle.trace_spans.proofs.exception.last_exception.Given as goal

-- that of the last event so far, unless a later one has one
abbrev pub invariant-loop-event : goal.invariant-loop-event
invariant-loop-event l = last_exception l.form l.list l.initial.events ≡ then_on (last_exception l.form l.list l.events) (λ later. Ok (or_else later l.last))

abbrev pub decreases-loop-event : goal.decreases-loop-event
decreases-loop-event l = items_len l.events
