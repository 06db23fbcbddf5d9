-- Queries about one stage of a graph.
use Rattle.std.specs.Prelude.{ℕ, ◌≡◌, List, Option, Some, None, Result, Ok, Err}
use Rattle.stage_graph.specs.declared.stage.Stage.{Stage}
use Rattle.stage_graph.specs.Plain.{stage_at, dependents}
use Rattle.stage_ops.specs.declared.state.State.{State}
use Rattle.stage_ops.specs.States.{Completion}
use Rattle.scratch_eval.specs.declared.fault.QueryFault.{QueryFault}
use Rattle.scratch_eval.specs.declared.fault.QueryFault.TheVariants.{NoStage, Memory}
use Rattle.scratch_eval.specs.Blame.{chain}

abbrev pub query_number : QueryFault → ℕ
query_number NoStage = 10
query_number Memory = 90

-- the list of a live stage; elsewhere there is no stage
abbrev pub list_at : (ℕ → List ℕ) → ℕ → Option Stage → Result (List ℕ) QueryFault
list_at list place None = Err NoStage
list_at list place (Some stage) = Ok (list place)

-- the expected answer, or out of memory
abbrev pub AnswersOrMemory : Result (List ℕ) QueryFault → Result (List ℕ) QueryFault → Type 0
AnswersOrMemory due (Err Memory) = Unit {0}
AnswersOrMemory due answer = answer ≡ due

-- a stage's chain of blame
abbrev pub chain_at : (Stage → (ℕ → Option Completion) → State) → List (Option Stage) → ℕ → Result (List ℕ) QueryFault
chain_at step places place = list_at (chain step places) place (stage_at places place)

-- the stages that have the stage among their feeds, each once, in the order of their places
abbrev pub dependents_at : List (Option Stage) → ℕ → Result (List ℕ) QueryFault
dependents_at places place = list_at (dependents places) place (stage_at places place)
