-- What edits leave as it was.
use Rattle.std.proofs.Common.{Bool, true, false, ◌||◌, ◌&&◌, ◌≡◌, ◌<◌, ◌≤◌, ◌+◌, ℕ, inl, inr, ◌⊎◌, nat_eq, List, [], ◌∷◌, ◌++◌, length, Option, Some, None, is_some, not, Result, Ok, Err, sym, refl, ap, ◌∙◌, subst, arith}
use Rattle.std.specs.Prelude.{Contains, slice_index}
use Rattle.std.specs.List.{list_any}
use Rattle.std.specs.Str.{bytes_eq}
use Rattle.std.specs.Option.{option_and_then}
use Rattle.std.proofs.Math.ListN.{set, length-set}
use Rattle.std.proofs.lemmas.Bool.{cases_lt}
use Rattle.std.proofs.lemmas.Bool.Decides.{Decides-eqb}
use Rattle.std.proofs.lemmas.Option.{same_Some}
use Rattle.std.proofs.lemmas.Grind.{flat_map-append}
use Rattle.std.proofs.lemmas.List.{get_or_past, get_or_append_left, get_or_push, length-append, append-nil}
use Rattle.std.proofs.lemmas.List.Folds.{list_any-append}
use Rattle.std.proofs.lemmas.Slice.Eq.{bytes_eq-Decides}
use Rattle.stage_graph.specs.declared.stage.Stage.{Stage}
use Rattle.stage_graph.specs.declared.stage.Spec.{Spec}
use Rattle.stage_graph.specs.declared.edit.Edit.{Edit}
use Rattle.stage_graph.specs.declared.edit.Edit.TheVariants.{PinResult, PinMoment, SetTimes, SetAction, SetEnds, Add, Remove, Rewire}
use Rattle.stage_graph.specs.declared.fault.Refusal.{Refusal}
use Rattle.stage_graph.specs.Plain.{PlainGraph, stage_at, place_named, has_name, feeds_of, feeds_of_place, feeds_at}
use Rattle.stage_graph.specs.Sound.{IsSound, IsSoundStage}
use Rattle.stage_graph.specs.Checks.{passing, checks_of, is_tick, is_pin, are_ends, are_after, action_fault}
use Rattle.stage_graph.specs.Operations.{has_action}
use Rattle.stage_graph.specs.Names.{stage_of}
use Rattle.stage_graph.specs.Edits.{stage_edit, standing, changed_at, appended, added, unless_used, removed_at, first_dependent, edited}
use Rattle.stage_graph.specs.Changes.{edited_name, moves, is_edited, is_moved}
use Rattle.stage_graph.specs.Kept.{removes, is_removed, Stays, Becomes, IsChangeBy, listed, places_before_after, edited_places}
use Rattle.stage_graph.specs.Walk.{IsRanked}
use Rattle.stage_graph.specs.Order.{IsWalk, IsClosedWalk}
use Rattle.stage_graph.proofs.Lists.{set_cases}
use Rattle.stage_graph.proofs.Placing.{named_at}
use Rattle.stage_graph.proofs.Keeping.{stage_edit_changed, allowed_ok}
use Rattle.stage_graph.proofs.Ranked.{not_ranked_from_closed_walk}

either : (a b : Bool) → a ≡ true → (a || b) ≡ true
either true b holds = refl
either false b holds = cc

same_text : (text : List ℕ) → bytes_eq text text ≡ true
same_text text = (bytes_eq-Decides text text).1 refl

-- what stays as it is
becomes_same : (edits : List Edit) (here : Option Stage) → Becomes edits here here
becomes_same edits None = tt
becomes_same edits (Some stage) = record { same_name = refl; unless_edited = λ _. refl; unless_moved = λ _. refl }

-- ---- one edit

-- an edit moves the feeds of no stage but those that it rewires
feeds_kept : (find : List ℕ → Option ℕ) (edit : Edit) (stage new : Stage) → stage_edit find edit stage ≡ Ok new → edited_name edit ≡ stage.name
    → (moves stage.name edit ≡ true) ⊎ (feeds_of new ≡ feeds_of stage)
feeds_kept find (PinResult name result) stage new ok named = let is : record stage { pin_result = result } ≡ new = cc in inr (ap feeds_of (sym is))
feeds_kept find (PinMoment name moment) stage new ok named =
    inr (ap feeds_of (sym (allowed_ok (record passing { within = is_pin moment }) (record stage { pin_moment = moment }) new ok).1))
feeds_kept find (SetTimes name queued runs) stage new ok named =
    inr (ap feeds_of (sym (allowed_ok (record passing { within = is_tick queued && is_tick runs; acts = has_action stage.op }) (record stage { queued = queued; runs = runs }) new ok).1))
feeds_kept find (SetAction name action) stage new ok named =
    inr (ap feeds_of (sym (allowed_ok (record passing { acts = has_action stage.op; action = action_fault (Some action) }) (record stage { action = Some action }) new ok).1))
feeds_kept find (SetEnds name ends) stage new ok named =
    inr (ap feeds_of (sym (allowed_ok (record passing { within = are_ends ends; in_time = are_after stage.created ends }) (record stage { ends = ends }) new ok).1))
feeds_kept find (Rewire name sources inner) stage new ok named = inl (ap (bytes_eq name) (sym named) ∙ same_text name)
feeds_kept find (Add spec) stage new ok named = let is : stage ≡ new = cc in inr (ap feeds_of (sym is))
feeds_kept find (Remove name) stage new ok named = let is : stage ≡ new = cc in inr (ap feeds_of (sym is))

-- an edit that names a stage has edited it
edited_alone : (edit : Edit) (stage : Stage) → edited_name edit ≡ stage.name → is_edited (edit ∷ []) (Some stage) ≡ true
edited_alone edit stage named = either (bytes_eq (edited_name edit) stage.name) false ((bytes_eq-Decides (edited_name edit) stage.name).1 named)

stays_after : (find : List ℕ → Option ℕ) (edit : Edit) (stage new : Stage) → stage_edit find edit stage ≡ Ok new → edited_name edit ≡ stage.name → new.name ≡ stage.name
    → Stays (edit ∷ []) stage new
stays_after find edit stage new ok named same = record {
  same_name = same;
  unless_edited = λ other. let clash : true ≡ false = sym (edited_alone edit stage named) ∙ other in cc;
  unless_moved = λ other. elim (feeds_kept find edit stage new ok named) [
    | inl moved ↦ let clash : true ≡ false = sym (either (moves stage.name edit) false moved) ∙ other in cc
    | inr kept ↦ kept
  ];
}

stands_ok : (graph : PlainGraph) (answer : Result Stage Refusal) (new : PlainGraph) → standing graph answer ≡ Ok new
    → (stage : Stage) × (answer ≡ Ok stage) × (new ≡ record graph { places = set graph.places stage.place (Some stage) })
stands_ok graph (Ok stage) new ok = (stage, refl, cc)
stands_ok graph (Err refusal) new ok = cc

module _ (graph : PlainGraph) (sound : IsSound graph) (new : PlainGraph) where
  stage_changed : (edit : Edit) (name : List ℕ) → edited_name edit ≡ name → (place : ℕ) → place_named graph.places name ≡ Some place
      → (here : Option Stage) → stage_at graph.places place ≡ here → changed_at graph edit here ≡ Ok new → IsChangeBy (edit ∷ []) graph new
  stage_changed edit name named place found None is ok = cc
  stage_changed edit name named place found (Some stage) is ok =
      let stands = stands_ok graph (stage_edit (place_named graph.places) edit stage) new ok in
      let changed = stands.0 in
      let was = sound.stages place stage is in
      let own : IsSoundStage graph.places stage.place stage = subst (λ k. IsSoundStage graph.places k stage) (sym was.own_place) was in
      let change = stage_edit_changed graph.places stage changed own edit stands.1 in
      let at = named_at graph.places name place found in
      let called : stage.name ≡ name = (bytes_eq-Decides stage.name name).0 (ap (has_name name) (sym is) ∙ at.1) in
      let stays : Stays (edit ∷ []) stage changed = stays_after (place_named graph.places) edit stage changed stands.1 (named ∙ sym called) change.same_name in
      let put : changed.place ≡ place = change.same_place ∙ was.own_place in
      let there : new ≡ record graph { places = set graph.places place (Some changed) } = stands.2 ∙ ap (λ k. record graph { places = set graph.places k (Some changed) }) put in
      subst (IsChangeBy (edit ∷ []) graph) (sym there) (record {
        same_mode = refl;
        longer = omega (arith, length-set graph.places place (Some changed));
        stays_empty = λ other within empty. elim (set_cases graph.places place other (Some changed) None at.0) [
          | inl (same, now) ↦ let clash : None ≡ Some stage = sym empty ∙ ap (stage_at graph.places) same ∙ is in cc
          | inr (differ, now) ↦ now ∙ empty
        ];
        each = λ other. elim (set_cases graph.places place other (Some changed) None at.0) [
          | inl (same, now) ↦ rw (now, ap (stage_at graph.places) same ∙ is) stays
          | inr (differ, now) ↦ rw now (becomes_same (edit ∷ []) (stage_at graph.places other))
        ];
      })

  by_stage_edit : (edit : Edit) (name : List ℕ) → edited_name edit ≡ name → (found : Option ℕ) → place_named graph.places name ≡ found
      → changed_at graph edit (option_and_then (stage_at graph.places) found) ≡ Ok new → IsChangeBy (edit ∷ []) graph new
  by_stage_edit edit name named None is ok = cc
  by_stage_edit edit name named (Some place) is ok = stage_changed edit name named place is (stage_at graph.places place) refl ok

  by_addition : (spec : Spec) → added spec graph ≡ Ok new → IsChangeBy (Add spec ∷ []) graph new
  by_addition spec ok =
      let find : List ℕ → Option ℕ = place_named graph.places in
      let stage = stage_of find (length graph.places) spec in
      let is : appended graph stage ≡ new = (allowed_ok (checks_of (not (is_some (find spec.name))) find (length graph.places) spec) (appended graph stage) new ok).1 in
      let long : length (graph.places ++ Some stage ∷ []) ≡ length graph.places + 1 = length-append graph.places (Some stage ∷ []) in
      let moved : is_moved (Add spec ∷ []) (Some stage) ≡ true = either (bytes_eq spec.name spec.name) false (same_text spec.name) in
      subst (IsChangeBy (Add spec ∷ []) graph) is (record {
        same_mode = refl;
        longer = omega (arith, long);
        stays_empty = λ place within empty. get_or_append_left graph.places (Some stage ∷ []) None place within ∙ empty;
        each = λ place. elim (cases_lt place (length graph.places)) [
          | inl inside ↦ rw (get_or_append_left graph.places (Some stage ∷ []) None place inside) (becomes_same (Add spec ∷ []) (stage_at graph.places place))
          | inr past ↦ elim (cases_lt (length graph.places) place) [
            | inl beyond ↦
                let new_too : length (graph.places ++ Some stage ∷ []) ≤ place = omega (arith, long) in
                rw (get_or_past graph.places place None past, get_or_past (graph.places ++ Some stage ∷ []) place None new_too) tt
            | inr upto ↦
                let end : length graph.places ≡ place = omega arith in
                rw (get_or_past graph.places place None past, get_or_push graph.places (Some stage) None place end) moved
          ]
        ];
      })

  gone : (name : List ℕ) (place : ℕ) → place_named graph.places name ≡ Some place → (here : Option Stage) → stage_at graph.places place ≡ here
      → Becomes (Remove name ∷ []) here None
  gone name place found None is = tt
  gone name place found (Some was) is =
      let called : bytes_eq was.name name ≡ true = ap (has_name name) (sym is) ∙ (named_at graph.places name place found).1 in
      let same : name ≡ was.name = sym ((bytes_eq-Decides was.name name).0 called) in
      either (bytes_eq name was.name) false ((bytes_eq-Decides name was.name).1 same)

  vacated : (name : List ℕ) (place : ℕ) → place_named graph.places name ≡ Some place → (dependent : Option ℕ) → unless_used graph place dependent ≡ Ok new
      → IsChangeBy (Remove name ∷ []) graph new
  vacated name place found (Some dependent) ok = cc
  vacated name place found None ok =
      let is : record graph { places = set graph.places place None } ≡ new = cc in
      let within = (named_at graph.places name place found).0 in
      subst (IsChangeBy (Remove name ∷ []) graph) is (record {
        same_mode = refl;
        longer = omega (arith, length-set graph.places place None);
        stays_empty = λ other short empty. elim (set_cases graph.places place other None None within) [
          | inl (same, now) ↦ now
          | inr (differ, now) ↦ now ∙ empty
        ];
        each = λ other. elim (set_cases graph.places place other None None within) [
          | inl (same, now) ↦ rw now (gone name other (found ∙ ap Some (sym same)) (stage_at graph.places other) refl)
          | inr (differ, now) ↦ rw now (becomes_same (Remove name ∷ []) (stage_at graph.places other))
        ];
      })

  by_removal : (name : List ℕ) (found : Option ℕ) → place_named graph.places name ≡ found → removed_at graph found ≡ Ok new → IsChangeBy (Remove name ∷ []) graph new
  by_removal name None is ok = cc
  by_removal name (Some place) is ok = vacated name place is (first_dependent graph.places place) ok

  -- what one edit leaves
  pub kept_by_edit : (edit : Edit) → edited edit graph ≡ Ok new → IsChangeBy (edit ∷ []) graph new
  kept_by_edit (Add spec) ok = by_addition spec ok
  kept_by_edit (Remove name) ok = by_removal name (place_named graph.places name) refl ok
  kept_by_edit (PinResult name result) ok = by_stage_edit (PinResult name result) name refl (place_named graph.places name) refl ok
  kept_by_edit (PinMoment name moment) ok = by_stage_edit (PinMoment name moment) name refl (place_named graph.places name) refl ok
  kept_by_edit (SetTimes name queued runs) ok = by_stage_edit (SetTimes name queued runs) name refl (place_named graph.places name) refl ok
  kept_by_edit (SetAction name action) ok = by_stage_edit (SetAction name action) name refl (place_named graph.places name) refl ok
  kept_by_edit (SetEnds name ends) ok = by_stage_edit (SetEnds name ends) name refl (place_named graph.places name) refl ok
  kept_by_edit (Rewire name sources inner) ok = by_stage_edit (Rewire name sources inner) name refl (place_named graph.places name) refl ok

-- ---- lists

neither : (a b : Bool) → (a || b) ≡ false → (a ≡ false) × (b ≡ false)
neither true b none = cc
neither false b none = (refl, none)

second : (a b : Bool) → b ≡ true → (a || b) ≡ true
second true b holds = refl
second false b holds = holds

-- a test that a longer list fails, each of its parts fails
none_of_both : {A : Type 0} (p : A → Bool) (xs ys : List A) → list_any p (xs ++ ys) ≡ false → (list_any p xs ≡ false) × (list_any p ys ≡ false)
none_of_both p xs ys none = neither (list_any p xs) (list_any p ys) (sym (list_any-append p xs ys) ∙ none)

in_first : {A : Type 0} (p : A → Bool) (xs ys : List A) → list_any p xs ≡ true → list_any p (xs ++ ys) ≡ true
in_first p xs ys holds = list_any-append p xs ys ∙ either (list_any p xs) (list_any p ys) holds

in_second : {A : Type 0} (p : A → Bool) (xs ys : List A) → list_any p ys ≡ true → list_any p (xs ++ ys) ≡ true
in_second p xs ys holds = list_any-append p xs ys ∙ second (list_any p xs) (list_any p ys) holds

module _ (first then : List Edit) where
  -- a stage that stays by both parts of a list
  stays_on : (was between stage : Stage) → Stays first was between → Stays then between stage → Stays (first ++ then) was stage
  stays_on was between stage one two = record {
    same_name = two.same_name ∙ one.same_name;
    unless_edited = λ none.
        let parts = none_of_both (λ edit. bytes_eq (edited_name edit) was.name) first then none in
        let other : is_edited then (Some between) ≡ false = ap (λ name. list_any (λ edit. bytes_eq (edited_name edit) name) then) one.same_name ∙ parts.1 in
        two.unless_edited other ∙ one.unless_edited parts.0;
    unless_moved = λ none.
        let parts = none_of_both (moves was.name) first then none in
        let other : is_moved then (Some between) ≡ false = ap (λ name. list_any (moves name) then) one.same_name ∙ parts.1 in
        two.unless_moved other ∙ one.unless_moved parts.0;
  }

  becomes_on : (was between here : Option Stage) → (between ≡ None → was ≡ None ⊎ here ≡ None) → Becomes first was between → Becomes then between here → Becomes (first ++ then) was here
  becomes_on None None None empty one two = tt
  becomes_on None None (Some stage) empty one two = in_second (moves stage.name) first then two
  becomes_on None (Some between) None empty one two = tt
  becomes_on None (Some between) (Some stage) empty one two =
      in_first (moves stage.name) first then (ap (λ name. list_any (moves name) first) two.same_name ∙ one)
  becomes_on (Some was) None None empty one two = in_first (removes was.name) first then one
  becomes_on (Some was) None (Some stage) empty one two = elim (empty refl) [
    | inl other ↦ cc
    | inr other ↦ cc
  ]
  becomes_on (Some was) (Some between) None empty one two =
      in_second (removes was.name) first then (ap (λ name. list_any (removes name) then) (sym one.same_name) ∙ two)
  becomes_on (Some was) (Some between) (Some stage) empty one two = stays_on was between stage one two

  -- what one list leaves, and then another
  pub kept_on : (old between new : PlainGraph) → IsChangeBy first old between → IsChangeBy then between new → IsChangeBy (first ++ then) old new
  kept_on old between new one two = record {
    same_mode = two.same_mode ∙ one.same_mode;
    longer = omega (arith, one.longer, two.longer);
    stays_empty = λ place within empty. two.stays_empty place (omega (arith, within, one.longer)) (one.stays_empty place within empty);
    each = λ place. becomes_on (stage_at old.places place) (stage_at between.places place) (stage_at new.places place)
        (λ empty. elim (cases_lt place (length between.places)) [
          | inl within ↦ inr (two.stays_empty place within empty)
          | inr past ↦ inl (get_or_past old.places place None (omega (arith, past, one.longer)))
        ])
        (one.each place) (two.each place);
  }

-- ---- what follows

-- where a test implies another, a list that fails the other fails it
fails_too : {A : Type 0} (p q : A → Bool) → ((x : A) → p x ≡ true → q x ≡ true) → (xs : List A) → list_any q xs ≡ false → list_any p xs ≡ false
fails_too p q implies [] none = refl
fails_too p q implies (x ∷ xs) none =
    let parts = neither (q x) (list_any q xs) none in
    neither_back (p x) (list_any p xs) refl parts.0 (fails_too p q implies xs parts.1) where
      neither_back : (here later : Bool) → p x ≡ here → q x ≡ false → later ≡ false → (here || later) ≡ false
      neither_back true later is fails rest = let clash : true ≡ false = sym (implies x is) ∙ fails in cc
      neither_back false later is fails rest = rest

-- an edit that moves or removes a stage names it
moves_named : (name : List ℕ) (edit : Edit) → moves name edit ≡ true → bytes_eq (edited_name edit) name ≡ true
moves_named name (Add spec) is = is
moves_named name (Rewire other sources inner) is = is
moves_named name (Remove other) is = cc
moves_named name (PinResult other result) is = cc
moves_named name (PinMoment other moment) is = cc
moves_named name (SetTimes other queued runs) is = cc
moves_named name (SetAction other action) is = cc
moves_named name (SetEnds other ends) is = cc

removes_named : (name : List ℕ) (edit : Edit) → removes name edit ≡ true → bytes_eq (edited_name edit) name ≡ true
removes_named name (Remove other) is = is
removes_named name (Add spec) is = cc
removes_named name (Rewire other sources inner) is = cc
removes_named name (PinResult other result) is = cc
removes_named name (PinMoment other moment) is = cc
removes_named name (SetTimes other queued runs) is = cc
removes_named name (SetAction other action) is = cc
removes_named name (SetEnds other ends) is = cc

module _ (edits : List Edit) where
  not_moved : (stage : Stage) → is_edited edits (Some stage) ≡ false → is_moved edits (Some stage) ≡ false
  not_moved stage none = fails_too (moves stage.name) (λ edit. bytes_eq (edited_name edit) stage.name) (moves_named stage.name) edits none

  not_removed : (stage : Stage) → is_edited edits (Some stage) ≡ false → is_removed edits (Some stage) ≡ false
  not_removed stage none = fails_too (removes stage.name) (λ edit. bytes_eq (edited_name edit) stage.name) (removes_named stage.name) edits none

  same_here : (was here : Option Stage) → Becomes edits was here → is_edited edits was ≡ false → is_edited edits here ≡ false → here ≡ was
  same_here None None becomes before after = refl
  same_here None (Some stage) becomes before after = let clash : true ≡ false = sym becomes ∙ not_moved stage after in cc
  same_here (Some was) None becomes before after = let clash : true ≡ false = sym becomes ∙ not_removed was before in cc
  same_here (Some was) (Some stage) becomes before after = ap Some (becomes.unless_edited before)

  was_here : (was : Option Stage) (stage : Stage) → Becomes edits was (Some stage) → is_moved edits (Some stage) ≡ false
      → (old : Stage) × (was ≡ Some old) × (old.name ≡ stage.name) × (feeds_of old ≡ feeds_of stage)
  was_here None stage becomes none = let clash : true ≡ false = sym becomes ∙ none in cc
  was_here (Some was) stage becomes none =
      (was, refl, sym becomes.same_name, sym (becomes.unless_moved (ap (λ name. list_any (moves name) edits) (sym becomes.same_name) ∙ none)))

  module _ (old new : PlainGraph) (change : IsChangeBy edits old new) where
    -- a place whose stages, before and after, are not named by the list keeps its stage
    pub same_unless_edited : (place : ℕ) → is_edited edits (stage_at old.places place) ≡ false → is_edited edits (stage_at new.places place) ≡ false
        → stage_at new.places place ≡ stage_at old.places place
    same_unless_edited place = same_here (stage_at old.places place) (stage_at new.places place) (change.each place)

    -- a stage that the list neither adds nor rewires stood there before, under its name and with its feeds
    pub stood_unless_moved : (place : ℕ) (stage : Stage) → stage_at new.places place ≡ Some stage → is_moved edits (Some stage) ≡ false
        → (was : Stage) × (stage_at old.places place ≡ Some was) × (was.name ≡ stage.name) × (feeds_of was ≡ feeds_of stage)
    stood_unless_moved place stage is = was_here (stage_at old.places place) stage (subst (Becomes edits (stage_at old.places place)) is (change.each place))

-- ---- places listed by the names of the edits

not_listed : (place : ℕ) (found : Option ℕ) → list_any (nat_eq place) (listed found) ≡ false → found ≡ Some place → ⊥
not_listed place None none is = cc
not_listed place (Some k) none is =
    let same : nat_eq place k ≡ true = (Decides-eqb place k).1 (sym (same_Some k place is)) in
    let clash : true ≡ false = sym (either (nat_eq place k) false same) ∙ none in cc

module _ (old new : List (Option Stage)) (place : ℕ) (name : List ℕ) (there : (place_named old name ≡ Some place) ⊎ (place_named new name ≡ Some place)) where
  -- an edit whose places don't include this one names another stage
  other_name : (edit : Edit) → list_any (nat_eq place) (places_before_after old new (edited_name edit)) ≡ false → (same : Bool) → bytes_eq (edited_name edit) name ≡ same → same ≡ false
  other_name edit none false is = refl
  other_name edit none true is =
      let parts = none_of_both (nat_eq place) (listed (place_named old (edited_name edit))) (listed (place_named new (edited_name edit))) none in
      let one : edited_name edit ≡ name = (bytes_eq-Decides (edited_name edit) name).0 is in
      elim there [
        | inl before ↦ absurd (not_listed place (place_named old (edited_name edit)) parts.0 (ap (place_named old) one ∙ before))
        | inr after ↦ absurd (not_listed place (place_named new (edited_name edit)) parts.1 (ap (place_named new) one ∙ after))
      ]

  -- and so does a list of edits
  other_names : (edits : List Edit) → list_any (nat_eq place) (edited_places edits old new) ≡ false → list_any (λ edit. bytes_eq (edited_name edit) name) edits ≡ false
  other_names [] none = refl
  other_names (edit ∷ edits) none =
      let parts = none_of_both (nat_eq place) (places_before_after old new (edited_name edit)) (edited_places edits old new) none in
      neither_of (other_name edit parts.0 _ refl) (other_names edits parts.1) where
        neither_of : {a b : Bool} → a ≡ false → b ≡ false → (a || b) ≡ false
        neither_of one two = rw (one, two) refl

-- the places of one more edit
pub edited_more : (old new : List (Option Stage)) (edits : List Edit) (edit : Edit)
    → edited_places (edits ++ edit ∷ []) old new ≡ edited_places edits old new ++ places_before_after old new (edited_name edit)
edited_more old new edits edit =
    flat_map-append (λ edit. places_before_after old new (edited_name edit)) edits (edit ∷ [])
    ∙ ap (λ (more : List ℕ). edited_places edits old new ++ more) (append-nil (places_before_after old new (edited_name edit)))

module _ (edits : List Edit) (old new : PlainGraph) (sound_old : IsSound old) (sound_new : IsSound new) (change : IsChangeBy edits old new) (place : ℕ) where
  module _ (none : list_any (nat_eq place) (edited_places edits old.places new.places) ≡ false) where
    not_edited_before : (here : Option Stage) → stage_at old.places place ≡ here → is_edited edits here ≡ false
    not_edited_before None is = refl
    not_edited_before (Some was) is = other_names old.places new.places place was.name (inl (sound_old.stages place was is).by_name) edits none

    not_edited_after : (here : Option Stage) → stage_at new.places place ≡ here → is_edited edits here ≡ false
    not_edited_after None is = refl
    not_edited_after (Some stage) is = other_names old.places new.places place stage.name (inr (sound_new.stages place stage is).by_name) edits none

    -- at no other place does the stage change
    pub same_elsewhere : stage_at new.places place ≡ stage_at old.places place
    same_elsewhere = same_unless_edited edits old new change place (not_edited_before (stage_at old.places place) refl) (not_edited_after (stage_at new.places place) refl)

-- ---- cycles

-- a closed walk on which the list neither adds nor rewires a stage was one before, and so the graph was not ranked
pub new_cycle : (edits : List Edit) (old new : PlainGraph) → IsChangeBy edits old new → IsRanked old.places → (path : List ℕ) → IsClosedWalk new.places path
    → ((k : ℕ) → k < length path → is_moved edits (stage_at new.places (slice_index path k)) ≡ false) → ⊥
new_cycle edits old new change ranked path closed none =
    not_ranked_from_closed_walk old.places path (record { steps = closed.steps; walk = walked; closed = closed.closed }) ranked where
      from_here : (place feed : ℕ) → is_moved edits (stage_at new.places place) ≡ false → (here : Option Stage) → stage_at new.places place ≡ here
          → Contains (feeds_of_place here) feed → Contains (feeds_at old.places place) feed
      from_here place feed none None is there = absurd (omega (arith, there.1))
      from_here place feed none (Some stage) is there =
          let was = stood_unless_moved edits old new change place stage is (ap (is_moved edits) (sym is) ∙ none) in
          subst (λ (feeds : List ℕ). Contains feeds feed) (sym was.3 ∙ ap feeds_of_place (sym was.1)) there

      walked : IsWalk old.places path
      walked k more =
          from_here (slice_index path k) (slice_index path (k + 1)) (none k (omega (arith, more))) (stage_at new.places (slice_index path k)) refl (closed.walk k more)
