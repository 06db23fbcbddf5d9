-- What a stage is in a version.
use Rattle.std.specs.Prelude.{ℕ, List, Option, None, Some}
use Rattle.std.specs.Option.{option_map, option_and_then}
use Rattle.stage_graph.specs.Plain.{PlainGraph, stage_at, place_named}
use Rattle.stage_ops.specs.declared.state.Done.{Done}
use Rattle.stage_ops.specs.declared.state.State.{State}
use Rattle.version_store.specs.declared.before.Before.{Before}
use Rattle.version_store.specs.declared.before.Before.TheVariants as stood
use Rattle.version_store.specs.Queries.{state_of}
use Rattle.report_rows.specs.declared.standing.Standing.{Standing}
use Rattle.report_rows.specs.declared.standing.Standing.TheVariants.{Absent, Pending, Completed}

-- by its completion, none while it is pending
abbrev pub standing_of : Option Done → Standing
standing_of None = Pending
standing_of (Some done) = Completed done.outcome done.moment

-- by its state, where there is such a stage
abbrev pub standing_in : Option State → Standing
standing_in None = Absent
standing_in (Some state) = standing_of state.done

-- the stage at a place
abbrev pub standing_at : PlainGraph → ℕ → Standing
standing_at graph place = standing_of (state_of graph place).done

-- what it was in the parent
abbrev pub standing_before : Before → Standing
standing_before stood.Absent = Absent
standing_before stood.Pending = Pending
standing_before (stood.Done outcome moment) = Completed outcome moment

-- the state of the stage of a name; none where the graph has no such stage
abbrev pub state_at : PlainGraph → ℕ → Option State
state_at graph place = option_map (λ stage. state_of graph place) (stage_at graph.places place)

abbrev pub state_there : PlainGraph → List ℕ → Option State
state_there graph name = option_and_then (state_at graph) (place_named graph.places name)

-- its completion, none while it is pending; none at all where the graph has no such stage
abbrev pub done_of : PlainGraph → List ℕ → Option (Option Done)
done_of graph name = option_map (λ state. state.done) (state_there graph name)

-- what the stage of a name is
abbrev pub standing_there : PlainGraph → List ℕ → Standing
standing_there graph name = standing_in (state_there graph name)
