-- Each span of a trace has its stages, and each exception its name.
use Rattle.std.specs.Prelude.{◌≡◌, ℕ, ◌<◌, List, Contains, true, length, is_some}
use Rattle.trace_relations.specs.Relations.{PlainRelations}
use Rattle.trace_relations.specs.declared.as_told.AsTold.{AsTold}
use Rattle.trace_relations.specs.declared.unit.Unit.{Unit as TickUnit}
use Rattle.trace_spans.specs.declared.span.Span.{Span}
use Rattle.trace_stages.specs.Moments.{At}
use Rattle.trace_stages.specs.TwoStages.{has_two}
use Rattle.trace_stages.specs.declared.walk.stage_id.StageId.TheVariants.{Start, Whole, Tried, Limit, Answer}
use Rattle.trace_stages.specs.Known.{gave_up}
use Rattle.trace_stages.specs.StagesOf.{known_of}
use Rattle.trace_laws.specs.Circles.{IsTrace, trace_stages}

-- each span has a stage that ends when it did, and one that starts when it did where it has two; one that gave calls up has its limit and its end with their answers
abbrev pub EachSpanHasItsStages : Type 0
EachSpanHasItsStages =
    (unit : TickUnit) (as_told : AsTold) (spans : List Span) (relations : PlainRelations) (moments : List At) → IsTrace unit as_told spans relations moments
    → (place : ℕ) → place < length spans
    → Contains (trace_stages spans relations as_told moments) (Whole place)
    × (has_two relations.hosts relations.waiting place ≡ true → Contains (trace_stages spans relations as_told moments) (Start place))
    × (gave_up (known_of spans relations as_told moments) place ≡ true
    → Contains (trace_stages spans relations as_told moments) (Limit place) × Contains (trace_stages spans relations as_told moments) (Answer place))
    × (is_some (relations.attempts.next place) ≡ true → Contains (trace_stages spans relations as_told moments) (Tried place))
