-- The places whose feeds a list of edits may change.
use Rattle.std.specs.Prelude.{ℕ, List, Option, Some, None, is_some, if◌then◌else◌}
use Rattle.std.specs.List.{filter_map}
use Rattle.stage_graph.specs.declared.stage.Stage.{Stage}
use Rattle.stage_graph.specs.declared.edit.Edit.{Edit}
use Rattle.stage_graph.specs.declared.edit.Edit.TheVariants.{Add, Remove, Rewire}
use Rattle.stage_graph.specs.Plain.{stage_at, place_named}
use Rattle.stage_graph.specs.Walk.{IsRanked}
use Rattle.stage_graph.specs.Changes.{IsNewCycle}
use Rattle.rank_order.specs.declared.fault.PatchFault.{PatchFault}
use Rattle.rank_order.specs.declared.fault.PatchFault.TheVariants.{Cycle, Memory}

-- a place where nothing stands
abbrev pub emptied : List (Option Stage) → Option ℕ → Option ℕ
emptied places None = None
emptied places (Some place) = if is_some (stage_at places place) then None else Some place

-- the place of the stage that the edit adds or rewires, or of the one that it removes
abbrev pub moved_by : List (Option Stage) → List (Option Stage) → Edit → Option ℕ
moved_by old new (Add spec) = place_named new spec.name
moved_by old new (Rewire name sources inner) = place_named new name
moved_by old new (Remove name) = emptied new (place_named old name)
moved_by old new others = None

abbrev pub moved_places : List (Option Stage) → List (Option Stage) → List Edit → List ℕ
moved_places old new edits = filter_map (moved_by old new) edits

-- a cycle is returned only if the changed graph has one, with a closed walk through a stage that the list adds or rewires
abbrev pub IsPatchFault : List Edit → List (Option Stage) → PatchFault → Type 0
IsPatchFault edits places (Cycle path) = IsNewCycle edits places path × (IsRanked places → ⊥)
IsPatchFault edits places Memory = Unit {0}
