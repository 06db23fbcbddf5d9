-- What a version answers about a stage: determined by its graph, evaluated from scratch.
use Rattle.std.specs.Prelude.{ℕ, List, [], Option, Some, None, Result, Ok, Err, filter}
use Rattle.std.specs.Option.{option_map, option_and_then}
use Rattle.act_expr.specs.declared.outcome.Outcome.{Outcome}
use Rattle.stage_graph.specs.declared.stage.Stage.{Stage}
use Rattle.stage_graph.specs.Plain.{PlainGraph, all_places, stage_at}
use Rattle.stage_ops.specs.declared.state.State.{State}
use Rattle.stage_ops.specs.declared.state.Done.{Done}
use Rattle.stage_ops.specs.Evaluation.{at}
use Rattle.stage_ops.specs.Java.{java_step}
use Rattle.stage_graph.specs.declared.fault.NoStage.{NoStage}
use Rattle.rank_order.specs.Lists.{is_among}
use Rattle.propagate.specs.Patched.{touched_by}
use Rattle.propagate.specs.Reach.{StaysUntouched}
use Rattle.version_store.specs.Plain.{Origin, PlainVersion}
use Rattle.version_store.specs.declared.before.Before.{Before}
use Rattle.version_store.specs.declared.before.Before.TheVariants as stood

-- the state of the stage at a place
abbrev pub state_of : PlainGraph → ℕ → State
state_of graph place = at (java_step graph.mode) graph.places place

-- the outcome of a completed stage
abbrev pub outcome_in : State → Option Outcome
outcome_in state = option_map (λ done. done.outcome) state.done

-- the moment of its completion, in ticks
abbrev pub moment_in : State → Option ℕ
moment_in state = option_map (λ done. done.moment) state.done

-- the moment at which its action started, in ticks, if it did
abbrev pub start_in : State → Option ℕ
start_in state = option_and_then (λ done. done.start) state.done

-- the answer about a stage, where there is one
abbrev pub of_stage : {A : Type 0} → Option Stage → A → Result A NoStage
of_stage None answer = Err (record {})
of_stage (Some stage) answer = Ok answer

-- the answer about the live stage at a place, or that no stage stands there
abbrev pub told : {A : Type 0} → PlainGraph → ℕ → A → Result A NoStage
told graph place answer = of_stage (stage_at graph.places place) answer

-- what a stage held
abbrev pub held : Option Done → Before
held None = stood.Pending
held (Some done) = stood.Done done.outcome done.moment

-- what a stage held by its state, if it was there
abbrev pub held_as : Option State → Before
held_as None = stood.Absent
held_as (Some state) = held state.done

abbrev pub held_by : PlainGraph → ℕ → Option Stage → Before
held_by graph place None = stood.Absent
held_by graph place (Some stage) = held (state_of graph place).done

-- what the stage at a place held in the parent's graph
abbrev pub before : Option Origin → ℕ → Before
before None place = stood.Absent
before (Some origin) place = held_by origin.graph place (stage_at origin.graph.places place)

-- the place that a name has, or that no stage has the name
abbrev pub found : Option ℕ → Result ℕ NoStage
found None = Err (record {})
found (Some place) = Ok place

-- the touched stages of a graph: those that the edits name, and those that read one whose outcome, moment or blamed source changed
abbrev pub touched_in : Option Origin → PlainGraph → List ℕ
touched_in None graph = []
touched_in (Some origin) graph = touched_by (java_step graph.mode) origin.edits origin.graph.places graph.places

-- a stage that the edits of the origin do not touch is what it was there, and has the state that it had there
abbrev pub KeepsOthers : Origin → PlainGraph → Type 0
KeepsOthers origin graph =
    StaysUntouched (at (java_step origin.graph.mode)) (at (java_step graph.mode)) origin.graph.places graph.places (touched_in (Some origin) graph)

-- the stages that the version's edits touch, by rank and then by place; none of version 0
abbrev pub touched_of : PlainVersion → List ℕ
touched_of version = touched_in version.origin version.graph

-- the same, ordered by place only
abbrev pub touched_by_place : PlainVersion → List ℕ
touched_by_place version = filter (λ place. is_among place (touched_of version)) (all_places version.graph.places)
