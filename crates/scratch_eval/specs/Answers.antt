-- The answers of evaluation from scratch.
use Rattle.std.specs.Prelude.{ℕ, ◌≡◌, ◌+◌, ◌*◌, ◌^◌, ◌≤◌, All, Contains, List, length, map, Option, Some, None, Result, Ok, Err, slice_index_or}
use Rattle.stage_graph.specs.declared.stage.Stage.{Stage}
use Rattle.act_expr.specs.declared.outcome.Mode.{Mode}
use Rattle.stage_graph.specs.Plain.{PlainGraph, stage_at}
use Rattle.stage_graph.specs.Sound.{IsSound}
use Rattle.stage_ops.specs.Java.{java_step}
use Rattle.stage_ops.specs.OneDuration.{sight_of}
use Rattle.stage_ops.specs.OneDuration as once
use Rattle.stage_graph.specs.Walk.{rank, IsRanked}
use Rattle.stage_ops.specs.declared.state.State.{State}
use Rattle.stage_ops.specs.States.{pending, state_at, IsBy, seen_of, Completion}
use Rattle.stage_ops.specs.Evaluation.{at}
use Rattle.scratch_eval.specs.declared.answers.Answer.{Answer}
use Rattle.stage_graph.specs.declared.fault.NoStage.{NoStage}

-- the answer at a place; none at an empty one
abbrev pub answer_at : List (Option Answer) → ℕ → Option Answer
answer_at answers place = slice_index_or answers place None

-- the state of an answer
abbrev pub state_of : Option Answer → State
state_of None = pending
state_of (Some answer) = answer.state

-- the rank of an answer
abbrev pub rank_of : Option Answer → ℕ
rank_of None = 0
rank_of (Some answer) = answer.rank

-- what is known of a place: its state or its rank, or that no stage stands there
abbrev pub told_state : Option Answer → Result State NoStage
told_state None = Err record {}
told_state (Some answer) = Ok answer.state

abbrev pub told_rank : Option Answer → Result ℕ NoStage
told_rank None = Err record {}
told_rank (Some answer) = Ok answer.rank

abbrev pub states_of : List (Option Answer) → List State
states_of answers = map state_of answers

-- the state and the rank of a stage by their definitions
abbrev pub answer_for : (Stage → (ℕ → Option Completion) → State) → List (Option Stage) → ℕ → Option Stage → Option Answer
answer_for step places place None = None
answer_for step places place (Some stage) = Some (record { state = at step places place; rank = rank places place })

-- an answer for each live stage, which is that of the definitions
pub record AreAnswers (step : Stage → (ℕ → Option Completion) → State) (places : List (Option Stage)) (answers : List (Option Answer)) : Type 0 where
  pub each : length answers ≡ length places
  pub answer : (place : ℕ) → answer_at answers place ≡ answer_for step places place (stage_at places place)

-- the rank at each place
abbrev pub rank_at : List (Option Answer) → ℕ → ℕ
rank_at answers place = rank_of (answer_at answers place)

-- the answers so far: those of the stages that are done, and none at an empty place
pub record AreSoFar (step : Stage → (ℕ → Option Completion) → State) (places : List (Option Stage)) (done : List ℕ) (answers : List (Option Answer)) : Type 0 where
  pub each : length answers ≡ length places
  pub known : (place : ℕ) → Contains done place → answer_at answers place ≡ answer_for step places place (stage_at places place)
  pub empty : (place : ℕ) → stage_at places place ≡ None → answer_at answers place ≡ None
  pub moments : All (λ answer. IsBy (2 ^ 42 + length done * 2 ^ 41) (seen_of (state_of answer))) answers
  pub ranks : (place : ℕ) → rank_at answers place ≤ length done

-- no live stage's action is queued
abbrev pub NoneQueued : List (Option Stage) → Type 0
NoneQueued places = (place : ℕ) (stage : Stage) → stage_at places place ≡ Some stage → stage.queued ≡ 0

-- a stage of a sound and ranked graph completes no later than its rank allows
abbrev pub MomentsFollowRanks : (Stage → (ℕ → Option Completion) → State) → Type 0
MomentsFollowRanks step =
    (graph : PlainGraph) → IsSound graph → IsRanked graph.places
    → (place : ℕ) → IsBy (2 ^ 42 + rank graph.places place * 2 ^ 41) (seen_of (at step graph.places place))

-- and sooner where no action is queued
abbrev pub MomentsFollowRanksUnqueued : (Stage → (ℕ → Option Completion) → State) → Type 0
MomentsFollowRanksUnqueued step =
    (graph : PlainGraph) → IsSound graph → IsRanked graph.places → NoneQueued graph.places
    → (place : ℕ) → IsBy (2 ^ 41 + rank graph.places place * 2 ^ 40) (seen_of (at step graph.places place))

-- by the operations of a completion stage, where no action is queued: all but the starts are as by the definitions with one duration
abbrev pub TellOneDuration : (Stage → (ℕ → Option Completion) → State) → Mode → List (Option Stage) → List (Option Answer) → Type 0
TellOneDuration step mode places answers =
    step ≡ java_step mode → NoneQueued places
    → (place : ℕ) → sight_of (state_at (states_of answers) place) ≡ once.at mode places place

-- where these are the answers of a sound and ranked graph, by the operations of a completion stage, the state at the place completes no later than its rank allows, and sooner where no action is queued
pub record StatesFollowRanks (answers : List (Option Answer)) (place : ℕ) (state : State) : Type 0 where
  pub bound : (graph : PlainGraph) → IsSound graph → IsRanked graph.places → AreAnswers (java_step graph.mode) graph.places answers
      → IsBy (2 ^ 42 + rank graph.places place * 2 ^ 41) (seen_of state)
  pub unqueued : (graph : PlainGraph) → IsSound graph → IsRanked graph.places → NoneQueued graph.places → AreAnswers (java_step graph.mode) graph.places answers
      → IsBy (2 ^ 41 + rank graph.places place * 2 ^ 40) (seen_of state)
