-- What a list of edits leaves as it was: which places it can reach, and whose feeds it can move.
use Rattle.std.specs.Prelude.{ℕ, ◌<◌, ◌≤◌, ◌≡◌, Bool, false, IsTrue, List, [], ◌∷◌, ◌++◌, length, Option, Some, None}
use Rattle.std.specs.List.{list_any, flat_map}
use Rattle.std.specs.Str.{bytes_eq}
use Rattle.stage_graph.specs.declared.stage.Stage.{Stage}
use Rattle.stage_graph.specs.declared.edit.Edit.{Edit}
use Rattle.stage_graph.specs.declared.edit.Edit.TheVariants.{Remove}
use Rattle.stage_graph.specs.Plain.{PlainGraph, stage_at, place_named, feeds_of, dependents}
use Rattle.stage_graph.specs.Changes.{edited_name, is_edited, is_moved}

-- the edit removes a stage of the name
abbrev pub removes : List ℕ → Edit → Bool
removes name (Remove other) = bytes_eq other name
removes name others = false

-- some edit of the list removes the stage
abbrev pub is_removed : List Edit → Option Stage → Bool
is_removed edits None = false
is_removed edits (Some stage) = list_any (removes stage.name) edits

-- what a list of edits may make of a stage that stays live
pub record Stays (edits : List Edit) (was stage : Stage) : Type 0 where
  pub same_name : stage.name ≡ was.name
  pub unless_edited : is_edited edits (Some was) ≡ false → stage ≡ was
  pub unless_moved : is_moved edits (Some was) ≡ false → feeds_of stage ≡ feeds_of was

-- what a list of edits may make of what stands at a place: a stage comes where it is added, goes where it is removed, and else stays under its name
abbrev pub Becomes : List Edit → Option Stage → Option Stage → Type 0
Becomes edits None None = Unit {0}
Becomes edits None (Some stage) = IsTrue (is_moved edits (Some stage))
Becomes edits (Some was) None = IsTrue (is_removed edits (Some was))
Becomes edits (Some was) (Some stage) = Stays edits was stage

-- the graph keeps its places, of which an empty one is never used again, and changes at no other than the list's stages
pub record IsChangeBy (edits : List Edit) (old new : PlainGraph) : Type 0 where
  pub same_mode : new.mode ≡ old.mode
  pub longer : length old.places ≤ length new.places
  pub stays_empty : (place : ℕ) → place < length old.places → stage_at old.places place ≡ None → stage_at new.places place ≡ None
  pub each : (place : ℕ) → Becomes edits (stage_at old.places place) (stage_at new.places place)

-- these are the dependents of the stage of the name, if there is one
abbrev pub AreDependentsOf : List (Option Stage) → List ℕ → List ℕ → Type 0
AreDependentsOf places name those = (place : ℕ) → place_named places name ≡ Some place → those ≡ dependents places place

-- these are the dependents of the stage that the list's first edit names
abbrev pub AreFirstDependents : List (Option Stage) → List Edit → List ℕ → Type 0
AreFirstDependents places [] those = Unit {0}
AreFirstDependents places (edit ∷ edits) those = AreDependentsOf places (edited_name edit) those

abbrev pub listed : Option ℕ → List ℕ
listed None = []
listed (Some place) = place ∷ []

-- where the stage of a name stands before and after
abbrev pub places_before_after : List (Option Stage) → List (Option Stage) → List ℕ → List ℕ
places_before_after old new name = listed (place_named old name) ++ listed (place_named new name)

-- the places, before and after, of the stages that the list names
abbrev pub edited_places : List Edit → List (Option Stage) → List (Option Stage) → List ℕ
edited_places edits old new = flat_map (λ edit. places_before_after old new (edited_name edit)) edits
