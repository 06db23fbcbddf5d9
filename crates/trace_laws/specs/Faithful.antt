-- The recording of a trace is faithful: its stages complete when the spans did, and fail as they did.
use Rattle.std.specs.Prelude.{◌≡◌, ◌≤◌, ◌⊎◌, ℕ, List, Bool, true, false, is_some, map, Option, Some, None, Ok, slice_get}
use Rattle.act_expr.specs.declared.outcome.Mode.TheVariants.{Computed}
use Rattle.stage_graph.specs.Loading.{loaded}
use Rattle.stage_graph.specs.Plain.{PlainGraph}
use Rattle.stage_ops.specs.Evaluation.{at}
use Rattle.stage_ops.specs.Java.{java_step}
use Rattle.stage_ops.specs.declared.state.Done.{Done}
use Rattle.trace_relations.specs.Moments.{interval_at}
use Rattle.trace_relations.specs.Relations.{PlainRelations}
use Rattle.trace_relations.specs.declared.as_told.AsTold.{AsTold}
use Rattle.trace_relations.specs.declared.moment.Interval.{Interval}
use Rattle.trace_relations.specs.declared.unit.Unit.{Unit as TickUnit}
use Rattle.trace_spans.specs.declared.span.Span.{Span}
use Rattle.trace_stages.specs.Fates.{exception_told}
use Rattle.trace_stages.specs.Known.{PlainKnown, gave_up, had_at}
use Rattle.trace_stages.specs.Moments.{At}
use Rattle.trace_stages.specs.Outcomes.{work_end}
use Rattle.trace_stages.specs.StagesOf.{known_of, stages_by}
use Rattle.trace_stages.specs.declared.stage.Exception.{Exception}
use Rattle.trace_stages.specs.declared.stage.StageName.{StageName}
use Rattle.trace_stages.specs.declared.walk.stage_id.StageId.{StageId}
use Rattle.trace_stages.specs.declared.walk.stage_id.StageId.TheVariants.{Start, Whole, Entry, Join, Work, Tried, Limit, Answer}
use Rattle.trace_laws.specs.Circles.{IsTrace, trace_stages}
use Rattle.trace_laws.specs.Completes.{CompletesAt, spec_of}

-- an exception exactly if the span failed, and its own where it tells one
abbrev pub FailsAs : List Span → ℕ → Option Exception → Type 0
FailsAs spans place failure =
    (span : Span) → slice_get spans place ≡ Some span
    → (is_some failure ≡ span.failed) × ((name : List ℕ) → span.failed ≡ true → span.exception ≡ Some name → failure ≡ Some (exception_told spans place name))

-- pending where the span is open; else it completed when the span ended, and failed as that did; the only stage of a span started its action when the span started
abbrev pub EndsAs : (Exception → List ℕ) → List Span → ℕ → Interval → Bool → Option ℕ → Option Done → Type 0
EndsAs exceptions spans place interval two None completion = completion ≡ None
EndsAs exceptions spans place interval two (Some end) completion =
    (start : Option ℕ) × (failure : Option Exception) × CompletesAt exceptions start end failure completion × (two ≡ false → start ≡ Some interval.start) × FailsAs spans place failure

abbrev pub EndsAsSpan : (Exception → List ℕ) → List Span → PlainKnown → ℕ → Option Done → Type 0
EndsAsSpan exceptions spans known place completion =
    EndsAs exceptions spans place (interval_at known.relations.intervals place) (known.has_two place) (interval_at known.relations.intervals place).end completion

-- as the last attempt of a call did
abbrev pub EndsAsLast : (Exception → List ℕ) → List Span → PlainKnown → ℕ → Option Done → Type 0
EndsAsLast exceptions spans known last completion = EndsAs exceptions spans last (interval_at known.relations.intervals last) true (interval_at known.relations.intervals last).end completion

-- it completed by itself, with an outcome of others
abbrev pub Completes : (Exception → List ℕ) → Option Done → Type 0
Completes exceptions completion = (tick : ℕ) × (failure : Option Exception) × CompletesAt exceptions None tick failure completion

-- no earlier than the span ended, or never
abbrev pub IsLater : Option ℕ → Option Done → Type 0
IsLater end None = Unit {0}
IsLater None (Some done) = Unit {0}
IsLater (Some end) (Some done) = end ≤ done.moment

-- the start of a span completed when the span started, and its end when the span ended, with an exception exactly if it failed: of one that gave calls up so did its limit, and no
-- earlier its end with their answers; what a call came to that was tried again ended as its last attempt did; own work ended without an exception, at its tick
abbrev pub CompletesAs : (Exception → List ℕ) → List Span → PlainKnown → StageId → Option Done → Type 0
CompletesAs exceptions spans known (Start place) completion =
    CompletesAt exceptions (Some (interval_at known.relations.intervals place).start) (interval_at known.relations.intervals place).start None completion
CompletesAs exceptions spans known (Whole place) completion = EndsAsSpan exceptions spans known place completion
CompletesAs exceptions spans known (Work span number) completion = (start : Option ℕ) × CompletesAt exceptions start (work_end (slice_get (had_at known.hads span).works number)) None completion
CompletesAs exceptions spans known (Tried place) completion = EndsAsLast exceptions spans known (known.relations.attempts.last (known.relations.attempts.first place)) completion
CompletesAs exceptions spans known (Limit place) completion = EndsAsSpan exceptions spans known place completion
CompletesAs exceptions spans known (Answer place) completion = IsLater (interval_at known.relations.intervals place).end completion
CompletesAs exceptions spans known (Entry place number) completion = Completes exceptions completion
CompletesAs exceptions spans known (Join place number) completion = Completes exceptions completion ⊎ ((gave_up known place ≡ true) × (completion ≡ None))

-- so it is with each stage of the graph of a trace, whatever the names of stages and exceptions
abbrev pub EachTraceIsFaithful : Type 0
EachTraceIsFaithful =
    (unit : TickUnit) (as_told : AsTold) (spans : List Span) (relations : PlainRelations) (moments : List At) → IsTrace unit as_told spans relations moments
    → (text : StageName → List ℕ) (exceptions : Exception → List ℕ) (graph : PlainGraph) → loaded Computed (map (spec_of text exceptions) (stages_by spans relations as_told moments)) ≡ Ok graph
    → (position : ℕ) (stage : StageId) → slice_get (trace_stages spans relations as_told moments) position ≡ Some stage
    → CompletesAs exceptions spans (known_of spans relations as_told moments) stage (at (java_step Computed) graph.places position).done
