-- Who is to blame for an exception: a chain of stages, each of which handed on what the next one holds.
use Rattle.std.specs.Prelude.{ℕ, ◌≡◌, List, [], ◌∷◌, length, Option, Some, None, zero, suc, if◌then◌else◌}
use Rattle.stage_graph.specs.declared.stage.Stage.{Stage}
use Rattle.stage_graph.specs.Plain.{PlainGraph}
use Rattle.stage_graph.specs.Sound.{IsSound}
use Rattle.stage_graph.specs.Walk.{from_feeds, IsRanked}
use Rattle.stage_ops.specs.declared.state.State.{State}
use Rattle.stage_ops.specs.declared.state.Done.{Done}
use Rattle.stage_ops.specs.States.{Completion}
use Rattle.stage_ops.specs.Sources.{is_exceptional}
use Rattle.stage_ops.specs.Evaluation.{at}

-- the chain of the source that is blamed
abbrev pub chain_after : (ℕ → List ℕ) → Option ℕ → List ℕ
chain_after chains None = []
chain_after chains (Some source) = chains source

-- nobody is to blame for a value or where nothing has completed; for an exception it is the place, and then the chain of the source that it blames
abbrev pub chain_of : ℕ → Option Done → (ℕ → List ℕ) → List ℕ
chain_of place None chains = []
chain_of place (Some done) chains = if is_exceptional done.outcome then place ∷ chain_after chains done.from else []

-- the completion that is exceptional
abbrev pub failure_of : Option Done → Option Done
failure_of None = None
failure_of (Some done) = if is_exceptional done.outcome then Some done else None

abbrev pub chain_step : (ℕ → State) → Stage → (ℕ → List ℕ) → List ℕ
chain_step states stage chains = chain_of stage.place (states stage.place).done chains

-- the chain of blame of a stage
abbrev pub chain : (Stage → (ℕ → Option Completion) → State) → List (Option Stage) → ℕ → List ℕ
chain step places place = from_feeds [] (chain_step (at step places)) places (length places) place

-- on a ranked graph each chain continues as the state at its place says
abbrev pub ChainsFollowBlame : (Stage → (ℕ → Option Completion) → State) → Type 0
ChainsFollowBlame step =
    (graph : PlainGraph) → IsSound graph → IsRanked graph.places
    → (place : ℕ) → chain step graph.places place ≡ chain_of place (at step graph.places place).done (chain step graph.places)

-- the first stages of a chain, up to a count, determined by the states only
abbrev pub followed : (ℕ → State) → ℕ → ℕ → List ℕ
followed states zero place = []
followed states (suc most) place = chain_of place (states place).done (followed states most)
