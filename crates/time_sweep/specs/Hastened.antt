-- A stage whose action is faster, and the graph with it in place of the one that stands there.
use Rattle.std.specs.Prelude.{ℕ, ◌*◌, ◌/◌, List, [], ◌∷◌, Some, min, slice_set}
use Rattle.stage_graph.specs.declared.edit.Edit.{Edit}
use Rattle.stage_graph.specs.declared.edit.Edit.TheVariants.{SetTimes}
use Rattle.stage_graph.specs.declared.stage.Stage.{Stage}
use Rattle.stage_graph.specs.Plain.{PlainGraph}
use Rattle.time_sweep.specs.declared.haste.Haste.{Haste}
use Rattle.time_sweep.specs.declared.haste.Part.{Part}
use Rattle.time_sweep.specs.declared.haste.Part.TheVariants.{Both, Queue}

-- that of an action that is not queued and takes no time
abbrev pub whole_haste : Haste
whole_haste = record { part = Both; percent = 0 }

-- so many hundredths of a number of ticks, rounded down, and no more than all of them
abbrev pub share_of : ℕ → ℕ → ℕ
share_of percent ticks = min ticks (ticks * percent / 100)

-- how long an action runs then that runs so many ticks
abbrev pub runs_by : Part → ℕ → ℕ → ℕ
runs_by Both percent ticks = share_of percent ticks
runs_by Queue percent ticks = ticks

abbrev pub runs_left : Haste → ℕ → ℕ
runs_left haste ticks = runs_by haste.part haste.percent ticks

-- the stage with so much less of its times
abbrev pub hastened_stage : Haste → Stage → Stage
hastened_stage haste stage = record stage { queued = share_of haste.percent stage.queued; runs = runs_left haste stage.runs }

-- the graph with it
abbrev pub hastened : PlainGraph → Haste → Stage → PlainGraph
hastened graph haste stage = record graph { places = slice_set graph.places stage.place (Some (hastened_stage haste stage)) }

-- the edits that make it of the graph
abbrev pub hasten : Haste → Stage → List Edit
hasten haste stage = SetTimes stage.name (share_of haste.percent stage.queued) (runs_left haste stage.runs) ∷ []
