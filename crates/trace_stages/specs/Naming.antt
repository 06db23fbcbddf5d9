-- Stages of recordings, with their names.
use Rattle.std.specs.Prelude.{ℕ, ◌+◌, List, [], ◌∷◌, length, map, min, if◌then◌else◌, Option, Some, None}
use Rattle.trace_stages.specs.declared.stage.Action.{Action}
use Rattle.trace_stages.specs.declared.stage.Action.TheVariants.{Null, PicksFirst}
use Rattle.trace_stages.specs.declared.stage.ImportedStage.{ImportedStage}
use Rattle.trace_stages.specs.declared.stage.Op.{Op}
use Rattle.trace_stages.specs.declared.stage.Op.TheVariants.{AllOf, AnyOf, ExceptionallyCompose}
use Rattle.trace_stages.specs.declared.stage.StageName.{StageName}
use Rattle.trace_stages.specs.declared.stage.StageName.TheVariants as named
use Rattle.trace_stages.specs.declared.works.Work.{Work as WorkOf}
use Rattle.trace_relations.specs.Attempts.{Attempts}
use Rattle.trace_stages.specs.Beginnings.{option_list}
use Rattle.trace_stages.specs.Called.{call_end}
use Rattle.trace_stages.specs.Known.{PlainKnown, gave_up}
use Rattle.trace_stages.specs.Order.{entry_sources, join_sources}
use Rattle.trace_stages.specs.Scene.{PlainScene, entry_at}
use Rattle.trace_stages.specs.Works.{answer_work, begin_work, limit_work, own_work, whole_work}
use Rattle.trace_stages.specs.declared.walk.stage_id.StageId.{StageId}
use Rattle.trace_stages.specs.declared.walk.stage_id.StageId.TheVariants.{Start, Whole, Entry, Join, Work, Tried, Limit, Answer}

-- a count is at most the greatest number of 64 bits
abbrev pub counted : ℕ → ℕ
counted n = min n 18_446_744_073_709_551_615

-- the joins of a span are those at its start, and then those of what it has, counted from 1
abbrev pub name_of : PlainScene → StageId → StageName
name_of scene (Start place) = named.Start place
name_of scene (Whole place) = named.Whole place
name_of scene (Tried place) = named.Tried place
name_of scene (Limit place) = named.Limit place
name_of scene (Answer place) = named.Answer place
name_of scene (Work span number) = named.Work span (counted (number + 1))
name_of scene (Entry span number) = named.Join span (counted (number + 1))
name_of scene (Join span number) = named.Join span (counted (number + length (entry_at scene.entries span).joins + 1))

-- a stage of a recording
pub record PlainStage : Type 0 where
  pub name : StageName
  pub op : Op
  pub created : ℕ
  pub sources : List StageName
  pub inner : Option StageName
  pub queued : ℕ
  pub runs : ℕ
  pub action : Option Action

abbrev pub plain_stage : ImportedStage → PlainStage
plain_stage stage = record {
  name = stage.name;
  op = stage.op;
  created = stage.created;
  sources = stage.sources.items;
  inner = stage.inner;
  queued = stage.queued;
  runs = stage.runs;
  action = stage.action;
}

abbrev pub plain_stages : List ImportedStage → List PlainStage
plain_stages stages = map plain_stage stages

-- a stage of several sources
abbrev pub imported_join : PlainScene → StageId → Op → List StageId → PlainStage
imported_join scene id op sources = record { name = name_of scene id; op = op; created = 0; sources = map (name_of scene) sources; inner = None; queued = 0; runs = 0; action = None }

abbrev pub imported_work : PlainScene → StageId → WorkOf → PlainStage
imported_work scene id work = record {
  name = name_of scene id;
  op = work.op;
  created = work.created;
  sources = map (name_of scene) (option_list work.source);
  inner = None;
  queued = work.queued;
  runs = work.runs;
  action = work.action;
}

-- the stage that ends when a span did: of one that gave calls up the first of its limit and of its end with the answer
abbrev pub imported_end : PlainScene → ℕ → PlainStage
imported_end scene place =
    if gave_up scene.known place then imported_join scene (Whole place) AnyOf (Limit place ∷ Answer place ∷ []) else imported_work scene (Whole place) (whole_work scene place)

abbrev pub end_of_next : Attempts → ℕ → Option ℕ → StageId
end_of_next attempts place None = Whole place
end_of_next attempts place (Some next) = call_end attempts next

-- what a call came to with the attempt after one
abbrev pub next_attempt : PlainKnown → ℕ → StageId
next_attempt known place = end_of_next known.relations.attempts place (known.relations.attempts.next place)

-- what a call came to that was tried again: its first attempt, or where that failed what it came to with the next
abbrev pub imported_tried : PlainScene → ℕ → PlainStage
imported_tried scene place = record {
  name = named.Tried place;
  op = ExceptionallyCompose;
  created = 0;
  sources = map (name_of scene) (Whole place ∷ []);
  inner = Some (name_of scene (next_attempt scene.known place));
  queued = 0;
  runs = 0;
  action = Some PicksFirst;
}

abbrev pub imported : PlainScene → StageId → PlainStage
imported scene (Start place) = imported_work scene (Start place) (begin_work scene place 0 Null)
imported scene (Whole place) = imported_end scene place
imported scene (Work span number) = imported_work scene (Work span number) (own_work scene span number)
imported scene (Tried place) = imported_tried scene place
imported scene (Limit place) = imported_work scene (Limit place) (limit_work scene place)
imported scene (Answer place) = imported_work scene (Answer place) (answer_work scene place)
imported scene (Entry span number) = imported_join scene (Entry span number) AllOf (entry_sources scene span number)
imported scene (Join span number) = imported_join scene (Join span number) AllOf (join_sources scene span number)
