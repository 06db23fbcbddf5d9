-- An import is a recording that is read, whose stages complete as the spans of its trace did.
use Rattle.std.specs.Prelude.{◌≡◌, ℕ, List, true, Some, Result, Ok, Err, slice_get}
use Rattle.act_expr.specs.ExceptionName.{is_exception_name}
use Rattle.act_expr.specs.declared.outcome.Mode.TheVariants.{Computed}
use Rattle.recording.specs.Reads.{IsNamed}
use Rattle.recording.specs.RecordingOf.{named}
use Rattle.recording.specs.declared.fault.Fault.{Fault}
use Rattle.recording.specs.declared.fault.Fault.TheVariants.{Memory}
use Rattle.stage_graph.specs.Plain.{PlainGraph}
use Rattle.stage_graph.specs.Walk.{IsRanked}
use Rattle.stage_ops.specs.Evaluation.{at}
use Rattle.stage_ops.specs.Java.{java_step}
use Rattle.trace_relations.specs.Relations.{PlainRelations}
use Rattle.trace_spans.specs.declared.span.Span.{Span}
use Rattle.trace_spans.specs.declared.trace.Trace.{Trace}
use Rattle.trace_stages.specs.Fates.{exception_told}
use Rattle.trace_stages.specs.Moments.{AreMoments, At}
use Rattle.trace_stages.specs.Naming.{plain_stages}
use Rattle.trace_stages.specs.StagesOf.{known_of, stages_by}
use Rattle.trace_stages.specs.declared.stage.Exception.{Exception}
use Rattle.trace_stages.specs.declared.stage.Stages.{Stages}
use Rattle.trace_stages.specs.declared.walk.stage_id.StageId.{StageId}
use Rattle.trace_import.specs.Actions.{exception_name, written_name}
use Rattle.trace_import.specs.Imported.{IsMadeFrom, IsRecordingOf}
use Rattle.trace_import.specs.declared.options.Mapping.{Mapping}
use Rattle.trace_laws.specs.Circles.{trace_stages}
use Rattle.trace_laws.specs.Faithful.{CompletesAs}

-- a graph, unless memory is out
abbrev pub IsGraph : Result PlainGraph Fault → Type 0
IsGraph (Ok graph) = Unit {0}
IsGraph (Err Memory) = Unit {0}
IsGraph (Err fault) = ⊥

-- who reads a recording that a trace makes reads a graph
abbrev pub EachImportIsAccepted : Type 0
EachImportIsAccepted = (mapping : Mapping) (trace : Trace) (text : List ℕ) → IsRecordingOf mapping trace text → (answer : Result PlainGraph Fault) → IsNamed answer (named text) → IsGraph answer

-- the exceptions of stages, as a recording has them
abbrev pub written_exception : List Span → Exception → List ℕ
written_exception spans exception = written_name (exception_name spans exception)

-- each stage of the graph completes as its span did
abbrev pub AreFaithful : Mapping → Trace → PlainRelations → List At → PlainGraph → Type 0
AreFaithful mapping trace relations moments graph =
    (position : ℕ) (stage : StageId) → slice_get (trace_stages trace.spans relations mapping.as_told moments) position ≡ Some stage
    → CompletesAs (written_exception trace.spans) trace.spans (known_of trace.spans relations mapping.as_told moments) stage (at (java_step Computed) graph.places position).done

-- the graph that is read from a text, of a trace's stages in the order of the text
pub record IsFaithful (mapping : Mapping) (trace : Trace) (text : List ℕ) : Type 0 where
  pub relations : PlainRelations
  pub stages : Stages
  pub made : IsMadeFrom mapping trace relations stages
  pub moments : List At
  pub happen : AreMoments relations.intervals moments
  pub ordered : plain_stages stages.0.items ≡ stages_by trace.spans relations mapping.as_told moments
  pub graph : PlainGraph
  pub read : named text ≡ Ok graph
  pub ranked : IsRanked graph.places
  pub complete : AreFaithful mapping trace relations moments graph

-- so it is with each recording that a trace makes
abbrev pub EachImportIsFaithful : Type 0
EachImportIsFaithful = (mapping : Mapping) (trace : Trace) (text : List ℕ) → IsRecordingOf mapping trace text → IsFaithful mapping trace text

-- the exception that a span tells is written by the name that it tells
abbrev pub EachExceptionHasItsName : Type 0
EachExceptionHasItsName =
    (spans : List Span) (place : ℕ) (span : Span) (name : List ℕ) → slice_get spans place ≡ Some span → span.exception ≡ Some name → is_exception_name name ≡ true
    → written_exception spans (exception_told spans place name) ≡ name
