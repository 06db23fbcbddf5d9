-- The places whose feeds a list of edits may change: at all others the feeds stay.
use Rattle.std.proofs.Common.{◌≡◌, ℕ, ◌+◌, ◌<◌, ◌≤◌, ◌⊎◌, Bool, true, false, cond, List, [], ◌∷◌, length, get_or, Option, Some, None, is_some, refl, ap, sym, ◌∙◌, subst, inl, inr, arith}
use Rattle.std.specs.Prelude.{All, IsTrue, IsSome, slice_index}
use Rattle.std.specs.List.{list_any, cons_option}
use Rattle.std.specs.Str.{bytes_eq}
use Rattle.std.proofs.lemmas.Bool.{cases_Bool, or_cases, or_left, or_right, true≢false, false≢true}
use Rattle.std.proofs.lemmas.Option.{same_Some, none-some}
use Rattle.std.proofs.lemmas.Slice.Eq.{bytes_eq-Decides}
use Rattle.std.proofs.lemmas.List.Elements.{Contains-get_or}
use Rattle.stage_graph.specs.declared.stage.Stage.{Stage}
use Rattle.stage_graph.specs.declared.edit.Edit.{Edit}
use Rattle.stage_graph.specs.declared.edit.Edit.TheVariants.{PinResult, PinMoment, SetTimes, SetAction, SetEnds, Add, Remove, Rewire}
use Rattle.stage_graph.specs.Plain.{PlainGraph, stage_at, place_named, has_name, feeds_at, feeds_of_place, IsLive}
use Rattle.stage_graph.specs.Walk.{above_all, rank, IsRanked}
use Rattle.stage_graph.proofs.Ranked.{live_from_feed, not_ranked_from_closed_walk}
use Rattle.stage_graph.specs.Sound.{IsSound}
use Rattle.stage_graph.specs.Changes.{moves, is_moved}
use Rattle.stage_graph.specs.Kept.{removes, Becomes, IsChangeBy}
use Rattle.stage_graph.proofs.Placing.{named_at}
use Rattle.rank_order.specs.Lists.{is_among}
use Rattle.rank_order.specs.declared.fault.PatchFault.{PatchFault}
use Rattle.rank_order.specs.declared.fault.PatchFault.TheVariants.{Cycle, Memory}
use Rattle.rank_order.specs.Orders.{PlainOrder, IsOrder}
use Rattle.rank_order.specs.Ranking.{AreRanksBut, IsCycleAmong}
use Rattle.rank_order.specs.Moved.{emptied, moved_by, moved_places, IsPatchFault}
use Rattle.rank_order.proofs.Members.{among_here, among_later, among_cases, contains_among}
use Rattle.rank_order.proofs.Listed.{same_above, rank_is_above, rank_le, order_rank}

same_name : (one other : List ℕ) → bytes_eq one other ≡ true → one ≡ other
same_name one other equal = (bytes_eq-Decides one other).0 equal

same_text : (text : List ℕ) → bytes_eq text text ≡ true
same_text text = (bytes_eq-Decides text text).1 refl

-- one more of the places, if there is one
listed_here : (found : Option ℕ) (places : List ℕ) (place : ℕ) → found ≡ Some place → is_among place (cons_option found places) ≡ true
listed_here None places place is = absurd (none-some place is)
listed_here (Some other) places place is = subst (λ x. is_among place (x ∷ places) ≡ true) (sym (same_Some other place is)) (among_here place places)

listed_later : (found : Option ℕ) (places : List ℕ) (place : ℕ) → is_among place places ≡ true → is_among place (cons_option found places) ≡ true
listed_later None places place among = among
listed_later (Some other) places place among = among_later place other places among

listed_cases : (found : Option ℕ) (places : List ℕ) (place : ℕ) → is_among place (cons_option found places) ≡ true → (found ≡ Some place) ⊎ (is_among place places ≡ true)
listed_cases None places place among = inr among
listed_cases (Some other) places place among = elim (among_cases place other places among) [ inl same ↦ inl (ap Some (sym same)) | inr later ↦ inr later ]

module _ (old new : List (Option Stage)) where
  -- where a list adds or rewires the stage of a name
  moves_listed : (name : List ℕ) (place : ℕ) → place_named new name ≡ Some place → (edits : List Edit) → list_any (moves name) edits ≡ true → is_among place (moved_places old new edits) ≡ true
  moves_listed name place at [] none = absurd (false≢true none)
  moves_listed name place at (edit ∷ edits) any = elim (or_cases (moves name edit) (list_any (moves name) edits) any) [
    | inl here ↦ listed_here (moved_by old new edit) (moved_places old new edits) place (by_edit edit here)
    | inr later ↦ listed_later (moved_by old new edit) (moved_places old new edits) place (moves_listed name place at edits later)
  ] where
    by_edit : (one : Edit) → moves name one ≡ true → moved_by old new one ≡ Some place
    by_edit (Add spec) is = ap (place_named new) (same_name spec.name name is) ∙ at
    by_edit (Rewire other sources inner) is = ap (place_named new) (same_name other name is) ∙ at
    by_edit (Remove other) is = absurd (false≢true is)
    by_edit (PinResult other result) is = absurd (false≢true is)
    by_edit (PinMoment other moment) is = absurd (false≢true is)
    by_edit (SetTimes other queued runs) is = absurd (false≢true is)
    by_edit (SetAction other action) is = absurd (false≢true is)
    by_edit (SetEnds other ends) is = absurd (false≢true is)

  emptied_is : (found : Option ℕ) (place : ℕ) → found ≡ Some place → stage_at new place ≡ None → emptied new found ≡ Some place
  emptied_is None place at empty = absurd (none-some place at)
  emptied_is (Some other) place at empty =
      let same : other ≡ place = same_Some other place at in
      subst (λ x. emptied new (Some x) ≡ Some place) (sym same) (ap (λ here. cond (is_some here) None (Some place)) empty)

  -- where it removes the stage of a name, and nothing stands there
  removes_listed : (name : List ℕ) (place : ℕ) → place_named old name ≡ Some place → stage_at new place ≡ None → (edits : List Edit) → list_any (removes name) edits ≡ true → is_among place (moved_places old new edits) ≡ true
  removes_listed name place at empty [] none = absurd (false≢true none)
  removes_listed name place at empty (edit ∷ edits) any = elim (or_cases (removes name edit) (list_any (removes name) edits) any) [
    | inl here ↦ listed_here (moved_by old new edit) (moved_places old new edits) place (by_edit edit here)
    | inr later ↦ listed_later (moved_by old new edit) (moved_places old new edits) place (removes_listed name place at empty edits later)
  ] where
    by_edit : (one : Edit) → removes name one ≡ true → moved_by old new one ≡ Some place
    by_edit (Remove other) is = emptied_is (place_named old other) place (ap (place_named old) (same_name other name is) ∙ at) empty
    by_edit (Add spec) is = absurd (false≢true is)
    by_edit (Rewire other sources inner) is = absurd (false≢true is)
    by_edit (PinResult other result) is = absurd (false≢true is)
    by_edit (PinMoment other moment) is = absurd (false≢true is)
    by_edit (SetTimes other queued runs) is = absurd (false≢true is)
    by_edit (SetAction other action) is = absurd (false≢true is)
    by_edit (SetEnds other ends) is = absurd (false≢true is)

  -- a place that is among them has a stage of the name that some edit adds or rewires, or none
  place_is : (name : List ℕ) (place : ℕ) (stage : Stage) → stage_at new place ≡ Some stage → place_named new name ≡ Some place → name ≡ stage.name
  place_is name place stage here at = sym (same_name stage.name name (sym (ap (has_name name) here) ∙ (named_at new name place at).1))

  emptied_none : (found : Option ℕ) (place : ℕ) (stage : Stage) → stage_at new place ≡ Some stage → emptied new found ≡ Some place → ⊥
  emptied_none None place stage here is = none-some place is
  emptied_none (Some other) place stage here is = by_live (is_some (stage_at new other)) refl is where
    by_live : (b : Bool) → is_some (stage_at new other) ≡ b → cond b None (Some other) ≡ Some place → ⊥
    by_live true live none = none-some place none
    by_live false empty some = true≢false (sym (ap is_some here) ∙ ap (λ x. is_some (stage_at new x)) (sym (same_Some other place some)) ∙ empty)

  pub moved_adds : (place : ℕ) (stage : Stage) → stage_at new place ≡ Some stage → (edits : List Edit) → is_among place (moved_places old new edits) ≡ true → list_any (moves stage.name) edits ≡ true
  moved_adds place stage here [] none = absurd (false≢true none)
  moved_adds place stage here (edit ∷ edits) among = elim (listed_cases (moved_by old new edit) (moved_places old new edits) place among) [
    | inl first ↦ or_left (moves stage.name edit) (list_any (moves stage.name) edits) (by_edit edit first)
    | inr later ↦ or_right (moves stage.name edit) (list_any (moves stage.name) edits) (moved_adds place stage here edits later)
  ] where
    by_edit : (one : Edit) → moved_by old new one ≡ Some place → moves stage.name one ≡ true
    by_edit (Add spec) at = (bytes_eq-Decides spec.name stage.name).1 (place_is spec.name place stage here at)
    by_edit (Rewire other sources inner) at = (bytes_eq-Decides other stage.name).1 (place_is other place stage here at)
    by_edit (Remove other) at = absurd (emptied_none (place_named old other) place stage here at)
    by_edit (PinResult other result) at = absurd (none-some place at)
    by_edit (PinMoment other moment) at = absurd (none-some place at)
    by_edit (SetTimes other queued runs) at = absurd (none-some place at)
    by_edit (SetAction other action) at = absurd (none-some place at)
    by_edit (SetEnds other ends) at = absurd (none-some place at)

  emptied_within : (found : Option ℕ) (place : ℕ) → emptied new found ≡ Some place → found ≡ Some place
  emptied_within None place is = absurd (none-some place is)
  emptied_within (Some other) place is = by_live (is_some (stage_at new other)) is where
    by_live : (b : Bool) → cond b None (Some other) ≡ Some place → Some other ≡ Some place
    by_live true none = absurd (none-some place none)
    by_live false some = some

  -- they are places
  pub moved_within : length old ≤ length new → (edits : List Edit) → (place : ℕ) → is_among place (moved_places old new edits) ≡ true → place < length new
  moved_within longer [] place none = absurd (false≢true none)
  moved_within longer (edit ∷ edits) place among = elim (listed_cases (moved_by old new edit) (moved_places old new edits) place among) [
    | inl first ↦ by_edit edit first
    | inr later ↦ moved_within longer edits place later
  ] where
    by_edit : (one : Edit) → moved_by old new one ≡ Some place → place < length new
    by_edit (Add spec) at = (named_at new spec.name place at).0
    by_edit (Rewire other sources inner) at = (named_at new other place at).0
    by_edit (Remove other) at = let within = (named_at old other place (emptied_within (place_named old other) place at)).0 in omega arith
    by_edit (PinResult other result) at = absurd (none-some place at)
    by_edit (PinMoment other moment) at = absurd (none-some place at)
    by_edit (SetTimes other queued runs) at = absurd (none-some place at)
    by_edit (SetAction other action) at = absurd (none-some place at)
    by_edit (SetEnds other ends) at = absurd (none-some place at)

  pub all_within : length old ≤ length new → (edits : List Edit) → All (λ place. place < length new) (moved_places old new edits)
  all_within longer edits k d short =
      let place = get_or (moved_places old new edits) k d in
      moved_within longer edits place (contains_among place (moved_places old new edits) (Contains-get_or (moved_places old new edits) k d short))

module _ (edits : List Edit) (old new : PlainGraph) (old_sound : IsSound old) (new_sound : IsSound new) (change : IsChangeBy edits old new) where
  -- at all other places the feeds stay
  pub feeds_elsewhere : (place : ℕ) → is_among place (moved_places old.places new.places edits) ≡ false → feeds_at new.places place ≡ feeds_at old.places place
  feeds_elsewhere place apart = by_stages (stage_at old.places place) (stage_at new.places place) refl refl (change.each place) where
    moved_here : (stage : Stage) → stage_at new.places place ≡ Some stage → is_moved edits (Some stage) ≡ true → ⊥
    moved_here stage here moved = true≢false (sym (moves_listed old.places new.places stage.name place (new_sound.stages place stage here).by_name edits moved) ∙ apart)

    by_stages : (was now : Option Stage) → stage_at old.places place ≡ was → stage_at new.places place ≡ now → Becomes edits was now → feeds_at new.places place ≡ feeds_at old.places place
    by_stages None None old_is new_is becomes = ap feeds_of_place new_is ∙ sym (ap feeds_of_place old_is)
    by_stages None (Some stage) old_is new_is becomes = absurd (moved_here stage new_is becomes)
    by_stages (Some was) None old_is new_is becomes =
        absurd (true≢false (sym (removes_listed old.places new.places was.name place (old_sound.stages place was old_is).by_name new_is edits becomes) ∙ apart))
    by_stages (Some was) (Some stage) old_is new_is stays = elim (cases_Bool (is_moved edits (Some was))) [
      | inl moved ↦ absurd (moved_here stage new_is (ap (λ name. list_any (moves name) edits) stays.same_name ∙ moved))
      | inr unmoved ↦ ap feeds_of_place new_is ∙ stays.unless_moved unmoved ∙ sym (ap feeds_of_place old_is)
    ]

-- ---- the order before

module _ (old : PlainGraph) (order : PlainOrder) (is : IsOrder order) (same : order.graph ≡ old) (before : List ℕ) (grown : (place : ℕ) → get_or before place 0 ≡ get_or order.ranks place 0) where
  old_rank : (place : ℕ) → slice_index before place ≡ rank old.places place
  old_rank place = grown place ∙ order_rank order is place ∙ ap (λ (graph : PlainGraph). rank graph.places place) same

  old_ranked : IsRanked old.places
  old_ranked = subst (λ (graph : PlainGraph). IsRanked graph.places) same is.ranked

  -- the ranks before are right except where feeds have changed
  pub old_right : (new : List (Option Stage)) (moved : List ℕ) → ((place : ℕ) → is_among place moved ≡ false → feeds_at new place ≡ feeds_at old.places place) → AreRanksBut moved (feeds_at new) (slice_index before)
  old_right new moved elsewhere place apart =
      old_rank place ∙ rank_is_above old.places old_ranked place
      ∙ same_above (rank old.places) (slice_index before) (feeds_at old.places place) (λ feed has. sym (old_rank feed))
      ∙ ap (above_all (slice_index before)) (sym (elsewhere place apart))

  pub old_small : (count : ℕ) → length old.places ≤ count → (place : ℕ) → slice_index before place ≤ count
  old_small count longer place = omega (arith, old_rank place, rank_le old.places place)

-- ---- cycles

-- a cycle through a moved place is one of the list's own
pub patch_fault : (edits : List Edit) (old new : List (Option Stage)) (fault : PatchFault) → IsCycleAmong new (moved_places old new edits) fault → IsPatchFault edits new fault
patch_fault edits old new Memory none = tt
patch_fault edits old new (Cycle path) (closed, among) =
    let first = slice_index path 0 in
    let steps = closed.steps in
    let live : IsLive new (slice_index path 0) = live_from_feed (stage_at new (slice_index path 0)) (slice_index path (0 + 1)) (closed.walk 0 (omega arith)) in
    ((closed, by_stage (stage_at new (slice_index path 0)) refl live), not_ranked_from_closed_walk new path closed) where
      by_stage : (here : Option Stage) → stage_at new (slice_index path 0) ≡ here → IsSome here → IsTrue (is_moved edits (stage_at new (slice_index path 0)))
      by_stage None empty live = absurd (false≢true live)
      by_stage (Some stage) is live = ap (is_moved edits) is ∙ moved_adds old new (slice_index path 0) stage is edits among
