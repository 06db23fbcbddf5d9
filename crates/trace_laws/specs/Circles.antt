-- The stages of a trace wait for each other in no circle.
use Rattle.std.specs.Prelude.{◌≡◌, ◌≤◌, ℕ, List, [], ◌∷◌, length, map, option_to_list, if◌then◌else◌, Contains, Ok}
use Rattle.act_expr.specs.declared.outcome.Mode.{Mode}
use Rattle.stage_graph.specs.Loading.{loaded}
use Rattle.stage_graph.specs.Plain.{PlainGraph}
use Rattle.stage_graph.specs.Walk.{IsRanked}
use Rattle.stage_graph.specs.declared.stage.Spec.{Spec}
use Rattle.trace_relations.specs.Ancestry.{most_spans}
use Rattle.trace_relations.specs.Relations.{AreRelationsOf, PlainRelations}
use Rattle.trace_relations.specs.declared.as_told.AsTold.{AsTold}
use Rattle.trace_relations.specs.declared.unit.Unit.{Unit as TickUnit}
use Rattle.trace_spans.specs.declared.span.Span.{Span}
use Rattle.trace_stages.specs.Beginnings.{option_list}
use Rattle.trace_stages.specs.Failures.{failures_by}
use Rattle.trace_stages.specs.Known.{gave_up}
use Rattle.trace_stages.specs.Moments.{AreMoments, At}
use Rattle.trace_stages.specs.Naming.{PlainStage, next_attempt}
use Rattle.trace_stages.specs.Order.{entry_sources, join_sources, ordered}
use Rattle.trace_stages.specs.Scene.{PlainScene, scene_of}
use Rattle.trace_stages.specs.StagesOf.{known_of, stages_by}
use Rattle.trace_stages.specs.Works.{answer_work, begin_work, limit_work, own_work, whole_work}
use Rattle.trace_stages.specs.declared.stage.Action.TheVariants.{Null}
use Rattle.trace_stages.specs.declared.stage.StageName.{StageName}
use Rattle.trace_stages.specs.Visits.{visits}
use Rattle.trace_stages.specs.declared.walk.stage_id.StageId.{StageId}
use Rattle.trace_stages.specs.declared.walk.stage_id.StageId.TheVariants.{Start, Whole, Entry, Join, Work, Tried, Limit, Answer}

-- spans that stand so to each other, and the moments at which they start and end
pub record IsTrace (unit : TickUnit) (as_told : AsTold) (spans : List Span) (relations : PlainRelations) (moments : List At) : Type 0 where
  pub stand : AreRelationsOf unit as_told spans relations
  pub few : length spans ≤ most_spans
  pub happen : AreMoments relations.intervals moments

-- all that is known of the spans of a trace and of their joins
abbrev pub trace_scene : List Span → PlainRelations → AsTold → List At → PlainScene
trace_scene spans relations as_told moments =
    scene_of (known_of spans relations as_told moments) (failures_by (known_of spans relations as_told moments) (visits relations.parents relations.order))

-- the stages of a trace, in the order of its recording
abbrev pub trace_stages : List Span → PlainRelations → AsTold → List At → List StageId
trace_stages spans relations as_told moments = ordered (trace_scene spans relations as_told moments) (visits relations.parents relations.order)

abbrev pub whole_sources : PlainScene → ℕ → List StageId
whole_sources scene place = if gave_up scene.known place then Limit place ∷ Answer place ∷ [] else option_list (whole_work scene place).source

-- what a stage waits for: its sources, and the stage that goes on where its source failed
abbrev pub sources_of : PlainScene → StageId → List StageId
sources_of scene (Start place) = option_list (begin_work scene place 0 Null).source
sources_of scene (Whole place) = whole_sources scene place
sources_of scene (Work span number) = option_list (own_work scene span number).source
sources_of scene (Tried place) = Whole place ∷ next_attempt scene.known place ∷ []
sources_of scene (Limit place) = option_list (limit_work scene place).source
sources_of scene (Answer place) = option_list (answer_work scene place).source
sources_of scene (Entry span number) = entry_sources scene span number
sources_of scene (Join span number) = join_sources scene span number

-- what a stage waits for is a stage
abbrev pub HaveSources : PlainScene → List StageId → Type 0
HaveSources scene stages = (stage source : StageId) → Contains stages stage → Contains (sources_of scene stage) source → Contains stages source

-- a stage of a recording, with texts for names
pub record IsNamedBy (text : StageName → List ℕ) (stage : PlainStage) (spec : Spec) : Type 0 where
  pub name : spec.name ≡ text stage.name
  pub sources : spec.sources ≡ map text stage.sources
  pub inner : spec.inner ≡ map text (option_to_list stage.inner)

-- so it is with the stages of a trace, if a recording may have so many
abbrev pub EachSourceIsAStage : Type 0
EachSourceIsAStage =
    (unit : TickUnit) (as_told : AsTold) (spans : List Span) (relations : PlainRelations) (moments : List At) → IsTrace unit as_told spans relations moments
    → length (trace_stages spans relations as_told moments) ≤ 65_536 → HaveSources (trace_scene spans relations as_told moments) (trace_stages spans relations as_told moments)

-- in the graph of a trace's stages, whatever their names, no walk from a stage to what it waits for comes back
abbrev pub NoTraceHasACircle : Type 0
NoTraceHasACircle =
    (unit : TickUnit) (as_told : AsTold) (spans : List Span) (relations : PlainRelations) (moments : List At) → IsTrace unit as_told spans relations moments
    → (text : StageName → List ℕ) (spec_of : PlainStage → Spec) → ((stage : PlainStage) → IsNamedBy text stage (spec_of stage))
    → (mode : Mode) (graph : PlainGraph) → loaded mode (map spec_of (stages_by spans relations as_told moments)) ≡ Ok graph → IsRanked graph.places
