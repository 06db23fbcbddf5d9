-- A stage edit on a graph.
use Rattle.std.proofs.Common.{◌≡◌, ◌∙◌, ℕ, List, Option, Some, Ok, Err, Result, true, ap, sym, refl}
use Rattle.std.specs.Str.{bytes_eq}
use Rattle.std.proofs.lemmas.Slice.Eq.{bytes_eq-Decides}
use Rattle.stage_graph.specs.declared.stage.Stage.{Stage}
use Rattle.stage_graph.specs.declared.edit.Edit.{Edit}
use Rattle.stage_graph.specs.declared.fault.EditFault.{EditFault}
use Rattle.stage_graph.specs.declared.fault.EditFault.TheVariants.{Refused, Memory}
use Rattle.stage_graph.specs.declared.fault.Refusal.{Refusal}
use Rattle.stage_graph.specs.Plain.{PlainGraph, place_named, stage_named, has_name, stage_at}
use Rattle.stage_graph.specs.Sound.{IsSoundStage}
use Rattle.stage_graph.specs.Edits.{IsAnswer, stage_edit, standing, changed_at, changed_stage}
use Rattle.stage_graph.proofs.Lists.{same_function}
use Rattle.stage_graph.proofs.Keeping.{IsChange, stage_edit_changed}

-- a refusal of the stage's change is one of the graph's
pub standing_refused : (graph : PlainGraph) (fault : EditFault) (answer : Result Stage Refusal) → IsAnswer {A = Stage} (Err fault) answer → IsAnswer {A = PlainGraph} (Err fault) (standing graph answer)
standing_refused graph (Refused refusal) answer is = ap (standing graph) is
standing_refused graph Memory answer is = tt

module _ (graph : PlainGraph) (name : List ℕ) (edit : Edit) (find : List ℕ → Option ℕ) (same : (name : List ℕ) → find name ≡ place_named graph.places name)
    (stage : Stage) (there : Some stage ≡ stage_named graph.places name) where
  pub changed_is : standing graph (stage_edit find edit stage) ≡ changed_stage graph name edit
  changed_is = ap (λ find. standing graph (stage_edit find edit stage)) (same_function same) ∙ ap (changed_at graph edit) there

  module _ (new : Stage) (ok : stage_edit find edit stage ≡ Ok new) (sound : IsSoundStage graph.places stage.place stage) (stands : stage_at graph.places stage.place ≡ Some stage) where
    pub is_change : IsChange graph.places stage new
    is_change = stage_edit_changed graph.places stage new sound edit (ap (λ (find : List ℕ → Option ℕ). stage_edit find edit stage) (sym (same_function same)) ∙ ok)

    pub change_stands : has_name new.name (stage_at graph.places new.place) ≡ true
    change_stands =
        let own : bytes_eq stage.name stage.name ≡ true = (bytes_eq-Decides stage.name stage.name).1 refl in
        ap (λ place. has_name new.name (stage_at graph.places place)) is_change.same_place ∙ ap (has_name new.name) stands ∙ ap (bytes_eq stage.name) is_change.same_name ∙ own
