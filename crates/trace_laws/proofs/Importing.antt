-- The laws of what is read and of what completes, joined.
use Rattle.std.proofs.Common.{◌≡◌, ℕ, ◌≤◌, List, [], ◌∷◌, length, map, Option, Some, None, option_map, Result, Ok, Err, refl, sym, ap, ◌∙◌, subst}
use Rattle.act_expr.specs.declared.outcome.Mode.TheVariants.{Computed}
use Rattle.recording.specs.Reads.{IsNamed}
use Rattle.recording.specs.RecordingOf.{named}
use Rattle.recording.specs.declared.fault.Fault.{Fault}
use Rattle.recording.specs.declared.fault.Fault.TheVariants.{TooLong, Json, Shape, ListSize, Refused, Cycle, Memory}
use Rattle.stage_graph.proofs.Ranked.{not_ranked_from_closed_walk}
use Rattle.stage_graph.specs.Loading.{loaded}
use Rattle.stage_graph.specs.Plain.{PlainGraph}
use Rattle.stage_graph.specs.Walk.{IsRanked}
use Rattle.stage_graph.specs.declared.op.Op.{Op}
use Rattle.trace_relations.specs.Relations.{PlainRelations}
use Rattle.trace_spans.specs.declared.span.Span.{Span}
use Rattle.trace_spans.specs.declared.trace.Trace.{Trace}
use Rattle.trace_stages.specs.Moments.{AreMoments, At}
use Rattle.trace_stages.specs.Names.{names}
use Rattle.trace_stages.specs.Naming.{PlainStage, plain_stages}
use Rattle.trace_stages.specs.StagesOf.{stages_by}
use Rattle.trace_stages.specs.declared.stage.Action.{Action}
use Rattle.trace_stages.specs.declared.stage.Action.TheVariants.{Null, PicksFirst, Throws, ThrowsIfFailed}
use Rattle.trace_stages.specs.declared.stage.Op.{Op as TraceOp}
use Rattle.trace_stages.specs.declared.stage.Op.TheVariants.{Async, Manual, ThenRun, Handle, WhenComplete, ExceptionallyCompose, AllOf, AnyOf}
use Rattle.trace_stages.specs.declared.stage.Stages.{Stages}
use Rattle.trace_import.specs.Actions.{imported_action}
use Rattle.trace_import.specs.Imported.{IsMadeFrom, count_of, text_of}
use Rattle.trace_import.specs.Limits.{longest, most_stages}
use Rattle.trace_import.specs.Specs.{imported_op, imported_spec, imported_specs}
use Rattle.trace_import.specs.StageNames.{stage_name}
use Rattle.trace_import.specs.declared.options.Mapping.{Mapping}
use Rattle.trace_laws.specs.Accepted.{graph_of, specs_of}
use Rattle.trace_laws.specs.Circles.{IsTrace}
use Rattle.trace_laws.specs.Completes.{action_of, op_of, spec_of}
use Rattle.trace_laws.specs.Imports.{EachImportIsAccepted, EachImportIsFaithful, IsFaithful, IsGraph, written_exception}
use Rattle.trace_laws.proofs.Holding.{no_circle}
use Rattle.trace_laws.proofs.Loading.{import_loaded}
use Rattle.trace_laws.proofs.Meeting.{each_is_faithful}
use Rattle.trace_laws.proofs.Reading.{import_read}

-- ---- the same stages of a recording

same_op : (op : TraceOp) → imported_op op ≡ op_of op
same_op Async = refl
same_op Manual = refl
same_op ThenRun = refl
same_op Handle = refl
same_op WhenComplete = refl
same_op ExceptionallyCompose = refl
same_op AllOf = refl
same_op AnyOf = refl

same_action : (spans : List Span) (action : Option Action) → option_map (imported_action spans) action ≡ option_map (action_of (written_exception spans)) action
same_action spans None = refl
same_action spans (Some Null) = refl
same_action spans (Some PicksFirst) = refl
same_action spans (Some (Throws exception)) = refl
same_action spans (Some (ThrowsIfFailed exception)) = refl

same_spec : (spans : List Span) (all : List (List ℕ)) (stage : PlainStage) → imported_spec spans all stage ≡ spec_of (stage_name all) (written_exception spans) stage
same_spec spans all stage =
    ap (λ (op : Op). record (imported_spec spans all stage) { op = op }) (same_op stage.op)
    ∙ ap (λ action. record (spec_of (stage_name all) (written_exception spans) stage) { action = action }) (same_action spans stage.action)

same_specs : (spans : List Span) (all : List (List ℕ)) (stages : List PlainStage) → imported_specs spans all stages ≡ map (spec_of (stage_name all) (written_exception spans)) stages
same_specs spans all [] = refl
same_specs spans all (stage ∷ stages) =
    ap (λ spec. spec ∷ imported_specs spans all stages) (same_spec spans all stage) ∙ ap (λ specs. spec_of (stage_name all) (written_exception spans) stage ∷ specs) (same_specs spans all stages)

-- ---- imports

module _ (mapping : Mapping) (trace : Trace) (relations : PlainRelations) (stages : Stages) (made : IsMadeFrom mapping trace relations stages) (few : count_of stages ≤ most_stages) where
  abbrev graph : PlainGraph
  graph = graph_of (specs_of trace.spans relations stages)

  faithful_by : (text : List ℕ) → named text ≡ Ok (graph_of (specs_of trace.spans relations stages)) → (moments : List At) → AreMoments relations.intervals moments
      → plain_stages stages.0.items ≡ stages_by trace.spans relations mapping.as_told moments → IsFaithful mapping trace text
  faithful_by text read moments happen ordered =
      let all = names trace.spans relations.order in
      let one : IsTrace mapping.unit mapping.as_told trace.spans relations moments = record { stand = made.stand; few = made.few; happen = happen } in
      let loads = import_loaded mapping.unit mapping.as_told trace.spans relations stages made.stand made.stages_are made.few few in
      let ordered_loads : loaded Computed (map (imported_spec trace.spans all) (stages_by trace.spans relations mapping.as_told moments)) ≡ Ok graph = ap (λ (l : List PlainStage). loaded Computed (map (imported_spec trace.spans all) l)) (sym ordered) ∙ loads in
      let told_loads : loaded Computed (map (spec_of (stage_name all) (written_exception trace.spans)) (stages_by trace.spans relations mapping.as_told moments)) ≡ Ok graph =
      ap (loaded Computed) (sym (same_specs trace.spans all (stages_by trace.spans relations mapping.as_told moments))) ∙ ordered_loads in
      record {
        relations = relations;
        stages = stages;
        made = made;
        moments = moments;
        happen = happen;
        ordered = ordered;
        graph = graph;
        read = read;
        ranked = no_circle mapping.unit mapping.as_told trace.spans relations moments one (stage_name all) (imported_spec trace.spans all) (λ stage. record { name = refl; sources = refl; inner = refl }) Computed graph ordered_loads;
        complete = each_is_faithful mapping.unit mapping.as_told trace.spans relations moments one (stage_name all) (written_exception trace.spans) graph told_loads;
      }

  faithful_text : (text : List ℕ) → text ≡ text_of mapping trace relations stages → length text ≤ longest → IsFaithful mapping trace text
  faithful_text text is short =
      let low : length (text_of mapping trace relations stages) ≤ longest = subst (λ (t : List ℕ). length t ≤ longest) is short in
      let read = import_read mapping trace relations stages made.texts made.stand made.stages_are made.few few low in
      faithful_by text (ap named is ∙ read.as_graph) made.stages_are.0 made.stages_are.1.0 made.stages_are.1.1

pub import_faithful : EachImportIsFaithful
import_faithful mapping trace text is = faithful_text mapping trace is.0.0 is.0.1 is.0.2 is.0.3 text is.0.4 is.1

-- ---- answers

is_graph : (answer : Result PlainGraph Fault) (meant : Result PlainGraph Fault) (told : PlainGraph) → meant ≡ Ok told → IsRanked told.places → IsNamed answer meant → IsGraph answer
is_graph (Ok found) meant told is ranked h = tt
is_graph (Err TooLong) meant told is ranked h = absurd cc
is_graph (Err Json) meant told is ranked h = absurd cc
is_graph (Err (Shape member)) meant told is ranked h = absurd cc
is_graph (Err ListSize) meant told is ranked h = absurd cc
is_graph (Err (Refused refused)) meant told is ranked h = absurd cc
is_graph (Err (Cycle path)) meant told is ranked (other, found, closed) =
    let same : other ≡ told = cc in
    not_ranked_from_closed_walk other.places path closed (subst (λ (g : PlainGraph). IsRanked g.places) (sym same) ranked)
is_graph (Err Memory) meant told is ranked h = tt

pub import_accepted : EachImportIsAccepted
import_accepted mapping trace text is answer answered =
    let all = import_faithful mapping trace text is in
    is_graph answer (named text) all.graph all.read all.ranked answered
