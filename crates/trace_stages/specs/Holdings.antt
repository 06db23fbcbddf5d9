-- What each span has by what happens inside it.
use Rattle.std.specs.Prelude.{◌≡◌, ℕ, List, length, Option, Some, None, slice_get}
use Rattle.trace_relations.specs.Moments.{interval_at}
use Rattle.trace_relations.specs.Relations.{PlainRelations}
use Rattle.trace_relations.specs.declared.moment.Interval.{Interval}
use Rattle.trace_stages.specs.declared.walk.called.Called.{Called}
use Rattle.trace_stages.specs.declared.walk.event.Event.{Event}
use Rattle.trace_stages.specs.declared.walk.holding.Holding.{Holding}
use Rattle.trace_stages.specs.Called.{called}
use Rattle.trace_stages.specs.Events.{events_of}
use Rattle.trace_stages.specs.Held.{PlainHolding, looked}
use Rattle.trace_stages.specs.KeptWalk.{Holds}
use Rattle.trace_stages.specs.Moments.{AreMoments, At}
use Rattle.trace_stages.specs.Walk.{answered, walked}

abbrev pub held_until : Option ℕ → ℕ → List Called → PlainHolding → PlainHolding
held_until None span called holding = holding
held_until (Some end) span called holding = answered span called (looked span holding)

-- we look at a span's end too, and then at the answers of what it had called
abbrev pub held_by : Interval → ℕ → List Event → List Called → PlainHolding
held_by interval span events called = held_until interval.end span called (walked span interval.start events)

-- what a span has, by the moments of its trace
abbrev pub held : PlainRelations → List At → ℕ → PlainHolding
held relations moments span =
    held_by (interval_at relations.intervals span) span (events_of (length relations.intervals) relations moments span) (called relations moments span)

-- what the spans have, one of each
abbrev pub AreHeldBy : PlainRelations → List At → List Holding → Type 0
AreHeldBy relations moments holdings = (span : ℕ) (holding : Holding) → slice_get holdings span ≡ Some holding → Holds holding (held relations moments span)

abbrev pub AreHeld : PlainRelations → List Holding → Type 0
AreHeld relations holdings =
    (moments : List At) × (AreMoments relations.intervals moments × (length holdings ≡ length relations.intervals) × AreHeldBy relations moments holdings)
