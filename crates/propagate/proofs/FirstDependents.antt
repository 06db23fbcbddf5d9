-- The dependents of the stage that a list's first edit names.
use Rattle.std.proofs.Common.{◌≡◌, ℕ, List, [], ◌∷◌, Option, Some, slice_get, refl}
use Rattle.stage_graph.specs.declared.stage.Stage.{Stage}
use Rattle.stage_graph.specs.declared.edit.Edit.{Edit}
use Rattle.stage_graph.specs.Plain.{stage_at, place_named, IsLive}
use Rattle.stage_graph.specs.Changes.{edited_name}
use Rattle.stage_graph.specs.Kept.{AreDependentsOf, AreFirstDependents}
use Rattle.stage_graph.proofs.Placing.{live_from_name, named_at}

-- they are those of the first edit
pub of_first : (places : List (Option Stage)) (edits : List Edit) (those : List ℕ)
    → ((edit : Edit) → slice_get edits 0 ≡ Some edit → AreDependentsOf places (edited_name edit) those) → AreFirstDependents places edits those
of_first places [] those each = tt
of_first places (edit ∷ edits) those each = each edit refl

-- where a name stands, a stage stands
pub live_where_named : (places : List (Option Stage)) (name : List ℕ) (place : ℕ) → place_named places name ≡ Some place → IsLive places place
live_where_named places name place at = live_from_name name (stage_at places place) (named_at places name place at).1
