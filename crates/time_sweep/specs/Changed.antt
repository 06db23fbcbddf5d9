-- The states of a trial: those of the version, and over them those that the trial changes.
use Rattle.std.specs.Prelude.{ℕ, List, length, nat_eq, map, Option, Some, None, ◌==◌, if◌then◌else◌, slice_get, unwrap_or}
use Rattle.std.specs.Option.{option_and_then}
use Rattle.std.specs.List.{range_with_len, IsDistinct}
use Rattle.stage_ops.specs.declared.state.State.{State}
use Rattle.stage_ops.specs.States.{state_at}
use Rattle.time_sweep.specs.declared.changes.Change.{Change}

-- the state of a change, if it is one of the place
abbrev pub change_of : ℕ → Option Change → Option State
change_of place None = None
change_of place (Some change) = if change.place == place then Some change.state else None

-- the state that a place was given, if it is changed
abbrev pub changed_at : List ℕ → List Change → ℕ → Option State
changed_at at list place = option_and_then (λ index. change_of place (slice_get list index)) (slice_get at place)

-- the state of a place
abbrev pub state_in : List State → List ℕ → List Change → ℕ → State
state_in before at list place = unwrap_or (changed_at at list place) (state_at before place)

abbrev pub states_in : List State → List ℕ → List Change → List State
states_in before at list = map (state_in before at list) (range_with_len 0 (length before))

abbrev pub changed_places : List Change → List ℕ
changed_places list = map (λ (change : Change). change.place) list

-- no two are of one place
abbrev pub IsEachOnce : List Change → Type 0
IsEachOnce list = IsDistinct nat_eq (changed_places list)
