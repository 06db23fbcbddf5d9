-- Completions that come so many ticks sooner, and what a stage makes of them.
use Rattle.std.specs.Prelude.{ℕ, ◌≡◌, ◌-◌, ◌==◌, min, Option, if◌then◌else◌}
use Rattle.std.specs.Option.{option_map}
use Rattle.stage_graph.specs.declared.stage.Stage.{Stage}
use Rattle.stage_ops.specs.declared.state.Done.{Done}
use Rattle.stage_ops.specs.declared.state.State.{State}
use Rattle.stage_ops.specs.States.{Completion}

-- the same outcome so many ticks sooner, as dependents see it
abbrev pub sooner_completion : ℕ → Completion → Completion
sooner_completion ticks completion = record { outcome = completion.outcome; moment = completion.moment - ticks; from = completion.from }

-- the same with the action, if one ran
abbrev pub sooner_done : ℕ → Done → Done
sooner_done ticks done = record { outcome = done.outcome; moment = done.moment - ticks; from = done.from; start = option_map (λ start. start - ticks) done.start }

-- a pending stage stays pending
abbrev pub sooner_state : ℕ → State → State
sooner_state ticks state = record { done = option_map (sooner_done ticks) state.done; reads = state.reads }

-- what dependents see where the stage at one place completes so many ticks sooner
abbrev pub with_sooner : ℕ → ℕ → (ℕ → Option Completion) → ℕ → Option Completion
with_sooner ticks place inputs other = if other == place then option_map (sooner_completion ticks) (inputs other) else inputs other

-- By how many ticks its feed completes sooner, by so many the stage does, but by no more than these; and nothing else of it changes.
abbrev pub HandsOn : (Stage → (ℕ → Option Completion) → State) → Stage → (ℕ → Option Completion) → ℕ → ℕ → Type 0
HandsOn step stage inputs feed most = (ticks : ℕ) → step stage (with_sooner ticks feed inputs) ≡ sooner_state (min ticks most) (step stage inputs)
