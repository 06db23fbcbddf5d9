-- Edits of a sound graph leave a sound one.
use Rattle.std.proofs.Common.{◌≡◌, ℕ, ◌+◌, Bool, true, false, if◌then◌else◌, List, [], ◌∷◌, length, Option, Some, None, is_some, not, Ok, Err, refl, ap, sym, subst, ◌∙◌}
use Rattle.std.specs.Prelude.{Result}
use Rattle.std.specs.Option.{option_and_then}
use Rattle.std.specs.Str.{bytes_eq}
use Rattle.std.proofs.Math.ListN.{set}
use Rattle.std.proofs.lemmas.Slice.Eq.{bytes_eq-Decides}
use Rattle.stage_graph.specs.declared.stage.Stage.{Stage}
use Rattle.stage_graph.specs.declared.stage.Spec.{Spec}
use Rattle.stage_graph.specs.declared.edit.Edit.{Edit}
use Rattle.stage_graph.specs.declared.edit.Edit.TheVariants.{PinResult, PinMoment, SetTimes, SetAction, SetEnds, Add, Remove, Rewire}
use Rattle.stage_graph.specs.declared.fault.Refusal.{Refusal as EditRefusal}
use Rattle.stage_graph.specs.declared.fault.Refused.{Refused}
use Rattle.stage_graph.specs.Plain.{PlainGraph, stage_at, place_named, has_name, IsLive}
use Rattle.stage_graph.specs.Sound.{IsSound, IsSoundStage}
use Rattle.stage_graph.specs.Checks.{checks_of}
use Rattle.stage_graph.specs.Names.{stage_of}
use Rattle.stage_graph.specs.Edits.{stage_edit, standing, changed_at, appended, added, unless_used, removed_at, first_dependent, edited}
use Rattle.stage_graph.specs.Changes.{then_on, changed_from, changed}
use Rattle.stage_graph.proofs.Placing.{named_at, live_from_name, sound_after_replace}
use Rattle.stage_graph.proofs.Keeping.{stage_edit_changed, allowed_ok, known_live}
use Rattle.stage_graph.proofs.Making.{within_places, lawful_stage, not_found}
use Rattle.stage_graph.proofs.Vacating.{sound_after_append, sound_after_vacate}
use Rattle.session_core.specs.declared.refusal.Refusal.{Refusal}
use Rattle.session_core.specs.declared.refusal.Refusal.TheVariants.{Cycle}
use Rattle.session_core.specs.Applied.{has_cycle, settled, applied}

stands_ok : (graph : PlainGraph) (answer : Result Stage EditRefusal) (new : PlainGraph) → standing graph answer ≡ Ok new
    → (stage : Stage) × (answer ≡ Ok stage) × (new ≡ record graph { places = set graph.places stage.place (Some stage) })
stands_ok graph (Ok stage) new ok = (stage, refl, cc)
stands_ok graph (Err refusal) new ok = cc

module _ (graph : PlainGraph) (sound : IsSound graph) (new : PlainGraph) where
  stage_changed : (edit : Edit) (place : ℕ) (here : Option Stage) → stage_at graph.places place ≡ here → changed_at graph edit here ≡ Ok new → IsSound new
  stage_changed edit place None is ok = cc
  stage_changed edit place (Some stage) is ok =
      let stands = stands_ok graph (stage_edit (place_named graph.places) edit stage) new ok in
      let after = stands.0 in
      let was = sound.stages place stage is in
      let own : IsSoundStage graph.places stage.place stage = subst (λ k. IsSoundStage graph.places k stage) (sym was.own_place) was in
      let change = stage_edit_changed graph.places stage after own edit stands.1 in
      let same : bytes_eq stage.name stage.name ≡ true = (bytes_eq-Decides stage.name stage.name).1 refl in
      let named : has_name after.name (stage_at graph.places after.place) ≡ true =
      ap (λ k. has_name after.name (stage_at graph.places k)) (change.same_place ∙ was.own_place) ∙ ap (has_name after.name) is ∙ ap (bytes_eq stage.name) change.same_name ∙ same in
      subst IsSound (sym stands.2) (sound_after_replace graph.mode graph.places after named change.sound sound)

  by_stage_edit : (edit : Edit) (found : Option ℕ) → changed_at graph edit (option_and_then (stage_at graph.places) found) ≡ Ok new → IsSound new
  by_stage_edit edit None ok = cc
  by_stage_edit edit (Some place) ok = stage_changed edit place (stage_at graph.places place) refl ok

  by_addition : (spec : Spec) → added spec graph ≡ Ok new → IsSound new
  by_addition spec ok =
      let find : List ℕ → Option ℕ = place_named graph.places in
      let free : Bool = not (is_some (find spec.name)) in
      let end : ℕ = length graph.places in
      let is = allowed_ok (checks_of free find end spec) (appended graph (stage_of find end spec)) new ok in
      subst IsSound is.1 (sound_after_append graph.mode graph.places (stage_of find end spec)
      (within_places free find end spec is.0) (not_found (find spec.name) is.0.free) refl (lawful_stage free find end spec is.0) (known_live graph.places spec.sources spec.inner is.0.known) sound)

  vacated : (place : ℕ) → IsLive graph.places place → (dependent : Option ℕ) → first_dependent graph.places place ≡ dependent → unless_used graph place dependent ≡ Ok new → IsSound new
  vacated place live (Some dependent) is ok = cc
  vacated place live None is ok =
      let same : record graph { places = set graph.places place None } ≡ new = cc in
      subst IsSound same (sound_after_vacate graph.mode graph.places sound place live is)

  by_removal : (name : List ℕ) (found : Option ℕ) → place_named graph.places name ≡ found → removed_at graph found ≡ Ok new → IsSound new
  by_removal name None is ok = cc
  by_removal name (Some place) is ok =
      vacated place (live_from_name name (stage_at graph.places place) (named_at graph.places name place is).1) (first_dependent graph.places place) refl ok

  by_edit : (edit : Edit) → edited edit graph ≡ Ok new → IsSound new
  by_edit (Add spec) ok = by_addition spec ok
  by_edit (Remove name) ok = by_removal name (place_named graph.places name) refl ok
  by_edit (PinResult name result) ok = by_stage_edit (PinResult name result) (place_named graph.places name) ok
  by_edit (PinMoment name moment) ok = by_stage_edit (PinMoment name moment) (place_named graph.places name) ok
  by_edit (SetTimes name queued runs) ok = by_stage_edit (SetTimes name queued runs) (place_named graph.places name) ok
  by_edit (SetAction name action) ok = by_stage_edit (SetAction name action) (place_named graph.places name) ok
  by_edit (SetEnds name ends) ok = by_stage_edit (SetEnds name ends) (place_named graph.places name) ok
  by_edit (Rewire name sources inner) ok = by_stage_edit (Rewire name sources inner) (place_named graph.places name) ok

then_sound : (index : ℕ) (r : Result PlainGraph EditRefusal) (next : PlainGraph → Result PlainGraph Refused) (made : PlainGraph)
    → ((between : PlainGraph) → r ≡ Ok between → next between ≡ Ok made → IsSound made) → then_on index r next ≡ Ok made → IsSound made
then_sound index (Ok between) next made each is = each between refl is
then_sound index (Err refusal) next made each is = absurd (cc is)

by_edits : (index : ℕ) (edits : List Edit) (graph made : PlainGraph) → IsSound graph → changed_from index edits graph ≡ Ok made → IsSound made
by_edits index [] graph made sound is = let same : graph ≡ made = cc is in subst IsSound same sound
by_edits index (edit ∷ edits) graph made sound is =
    then_sound index (edited edit graph) (changed_from (index + 1) edits) made (λ between first rest. by_edits (index + 1) edits between made (by_edit graph sound between edit first) rest) is

changed_sound : (edits : List Edit) (graph made : PlainGraph) → IsSound graph → changed edits graph ≡ Ok made → IsSound made
unfolding changed
changed_sound edits graph made sound is = by_edits 0 edits graph made sound is

abbrev unless_cyclic : PlainGraph → Bool → Result PlainGraph Refusal
unless_cyclic graph b = if b then Err Cycle else Ok graph

unless_test : (graph made : PlainGraph) (b : Bool) → unless_cyclic graph b ≡ Ok made → graph ≡ made
unless_test graph made true is = absurd (cc is)
unless_test graph made false is = cc is

settled_sound : (r : Result PlainGraph Refused) (made : PlainGraph) → ((graph : PlainGraph) → r ≡ Ok graph → IsSound graph) → settled r ≡ Ok made → IsSound made
settled_sound (Ok graph) made each is = subst IsSound (unless_test graph made (has_cycle graph.places) is) (each graph refl)
settled_sound (Err refused) made each is = absurd (cc is)

-- a graph that edits make of a sound one is sound
pub sound_from_applied : (edits : List Edit) (graph made : PlainGraph) → IsSound graph → applied edits graph ≡ Ok made → IsSound made
sound_from_applied edits graph made sound is = settled_sound (changed edits graph) made (λ between ok. changed_sound edits graph between sound ok) is
