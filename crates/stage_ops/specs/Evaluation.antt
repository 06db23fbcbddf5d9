-- Evaluation from scratch, for any step of one stage, and the conditions on a step.
use Rattle.std.specs.Prelude.{ℕ, ◌≡◌, ◌+◌, ◌≤◌, ◌^◌, List, length, Option, IfSome}
use Rattle.stage_graph.specs.declared.stage.Stage.{Stage}
use Rattle.stage_ops.specs.Among.{IsSoundAmong}
use Rattle.stage_graph.specs.Walk.{from_feeds, MeetsEach, IsRanked}
use Rattle.stage_ops.specs.declared.state.State.{State}
use Rattle.stage_ops.specs.States.{Completion, pending, seen_at, seen_of, IsReadBy, IsBy}

-- the step of a stage by the states of its feeds, of which it takes what dependents see
abbrev pub on_states : (Stage → (ℕ → Option Completion) → State) → Stage → (ℕ → State) → State
on_states step stage states = step stage (seen_at states)

-- the state at a place: pending at an empty one, and else the step of its stage on the states at its feeds
abbrev pub at : (Stage → (ℕ → Option Completion) → State) → List (Option Stage) → ℕ → State
at step places place = from_feeds pending (on_states step) places (length places) place

-- inputs that agree on what is read give the same state
abbrev pub ReadsDecide : (Stage → (ℕ → Option Completion) → State) → Type 0
ReadsDecide step =
    (stage : Stage) (inputs others : ℕ → Option Completion)
    → ((feed : ℕ) → IsReadBy stage (step stage inputs).reads feed → inputs feed ≡ others feed) → step stage inputs ≡ step stage others

-- the blamed source is a feed that was read
abbrev pub BlamesRead : Stage → State → Type 0
BlamesRead stage state = IfSome state.done (λ done. IfSome done.from (IsReadBy stage state.reads))

-- what the stage read had completed by this moment, as far as it had completed
abbrev pub ReadBy : (Stage → (ℕ → Option Completion) → State) → Stage → (ℕ → Option Completion) → ℕ → Type 0
ReadBy step stage inputs moment = (feed : ℕ) → IsReadBy stage (step stage inputs).reads feed → IsBy moment (inputs feed)

-- a stage completes within 2 ^ 41 ticks of 2 ^ 40 and of what it read
abbrev pub IsSoon : (Stage → (ℕ → Option Completion) → State) → Type 0
IsSoon step =
    (count : ℕ) (stage : Stage) (inputs : ℕ → Option Completion) (moment : ℕ)
    → IsSoundAmong count stage → 2 ^ 40 ≤ moment → ReadBy step stage inputs moment → IsBy (moment + 2 ^ 41) (seen_of (step stage inputs))

-- a stage whose action isn't queued completes within 2 ^ 40 ticks of 2 ^ 40 and of what it read
abbrev pub IsPrompt : (Stage → (ℕ → Option Completion) → State) → Type 0
IsPrompt step =
    (count : ℕ) (stage : Stage) (inputs : ℕ → Option Completion) (moment : ℕ)
    → IsSoundAmong count stage → stage.queued ≡ 0 → 2 ^ 40 ≤ moment → ReadBy step stage inputs moment → IsBy (moment + 2 ^ 40) (seen_of (step stage inputs))

-- on a ranked graph, states that meet each place's equation are those of evaluation from scratch
abbrev pub OneAnswer : (Stage → (ℕ → Option Completion) → State) → Type 0
OneAnswer step =
    (places : List (Option Stage)) (states : ℕ → State)
    → IsRanked places → MeetsEach pending (on_states step) places states → (place : ℕ) → states place ≡ at step places place
