-- The places of the stages that a list of edits names.
use Rattle.std.proofs.Common.{◌≡◌, ℕ, ◌+◌, ◌<◌, ◌≤◌, length, get_or, arith, Bool, true, false, List, [], ◌∷◌, ◌++◌, Option, Some, None, refl, ap, sym, ◌∙◌, subst, inr, ⊎_elim}
use Rattle.std.specs.Prelude.{nat_eq, ◌&&◌, ◌||◌, ◌==◌, ◌⊎◌, is_some, filter, All, Result, Ok}
use Rattle.std.specs.List.{list_any, flat_map}
use Rattle.std.specs.Str.{bytes_eq}
use Rattle.std.proofs.lemmas.Bool.{eqb-true, eq-eqb, or_cases, or_left, or_right}
use Rattle.std.proofs.lemmas.List.Folds.{list_any-append}
use Rattle.std.proofs.lemmas.Slice.Eq.{bytes_eq-Decides}
use Rattle.stage_graph.specs.declared.stage.Stage.{Stage}
use Rattle.stage_graph.specs.declared.edit.Edit.{Edit}
use Rattle.stage_graph.specs.Changes.{edited_name, is_edited}
use Rattle.stage_graph.specs.Kept.{Becomes, IsChangeBy, listed, places_before_after, edited_places}
use Rattle.stage_graph.specs.Plain.{PlainGraph, stage_at, has_name, place_named, all_places}
use Rattle.stage_graph.specs.Sound.{IsSound}
use Rattle.stage_graph.specs.Walk.{rank, IsRanked}
use Rattle.stage_graph.specs.declared.fault.Refused.{Refused}
use Rattle.stage_graph.proofs.Kept.{same_elsewhere}
use Rattle.stage_graph.proofs.Lists.{same_function}
use Rattle.std.proofs.lemmas.List.Elements.{Contains-get_or}
use Rattle.stage_graph.proofs.Placing.{named_at}
use Rattle.stage_ops.specs.States.{seen_at}
use Rattle.stage_ops.specs.Evaluation.{at}
use Rattle.rank_order.specs.Lists.{is_among}
use Rattle.propagate.specs.Completions.{differ}
use Rattle.propagate.specs.Patched.{IsCountOf}
use Rattle.propagate.specs.Reach.{Stages, Step, IsChange, reads_at, touched}
use Rattle.propagate.proofs.Members.{same_tests, contains_among}

-- a listed place is the one found
listed_is : (place : ℕ) (found : Option ℕ) → is_among place (listed found) ≡ true → found ≡ Some place
listed_is place None h = cc
listed_is place (Some k) h = ⊎_elim (λ same. ap (λ (n : ℕ). Some n) (sym (eqb-true place k same))) (λ none. absurd (impossible none)) (or_cases (place == k) false h) where
  impossible : false ≡ true → ⊥
  impossible e = cc

is_listed : (place : ℕ) (found : Option ℕ) → found ≡ Some place → is_among place (listed found) ≡ true
is_listed place None e = cc
is_listed place (Some k) e = or_left (place == k) false (eq-eqb place k (sym (the k place e))) where
  the : (a b : ℕ) → Some a ≡ Some b → a ≡ b
  the a b e = cc

module _ (old new : Stages) (place : ℕ) (name : List ℕ) where
  -- where each stage that stood or stands at the place has the name, the list names it exactly if the place is listed
  listed_named : ((other : List ℕ) → place_named old other ≡ Some place → other ≡ name) → ((other : List ℕ) → place_named new other ≡ Some place → other ≡ name)
      → (edits : List Edit) → is_among place (edited_places edits old new) ≡ true → list_any (λ edit. bytes_eq (edited_name edit) name) edits ≡ true
  listed_named before after [] h = h
  listed_named before after (edit ∷ edits) h =
      ⊎_elim
      (λ here.
      or_left (bytes_eq (edited_name edit) name) (list_any (λ edit. bytes_eq (edited_name edit) name) edits)
      ((bytes_eq-Decides (edited_name edit) name).1
      (⊎_elim
      (λ l. before (edited_name edit) (listed_is place (place_named old (edited_name edit)) l))
      (λ r. after (edited_name edit) (listed_is place (place_named new (edited_name edit)) r))
      (parts (listed (place_named old (edited_name edit))) (listed (place_named new (edited_name edit))) here))))
      (λ later. or_right (bytes_eq (edited_name edit) name) (list_any (λ edit. bytes_eq (edited_name edit) name) edits) (listed_named before after edits later))
      (parts (places_before_after old new (edited_name edit)) (edited_places edits old new) h) where
        parts : (xs ys : List ℕ) → is_among place (xs ++ ys) ≡ true → (is_among place xs ≡ true) ⊎ (is_among place ys ≡ true)
        parts xs ys h = or_cases (is_among place xs) (is_among place ys) (sym (list_any-append (nat_eq place) xs ys) ∙ h)

  named_listed : place_named new name ≡ Some place → (edits : List Edit) → list_any (λ edit. bytes_eq (edited_name edit) name) edits ≡ true → is_among place (edited_places edits old new) ≡ true
  named_listed there [] h = h
  named_listed there (edit ∷ edits) h =
      ⊎_elim
      (λ here.
      let one : edited_name edit ≡ name = (bytes_eq-Decides (edited_name edit) name).0 here in
      left (places_before_after old new (edited_name edit)) (edited_places edits old new)
      (right (listed (place_named old (edited_name edit))) (listed (place_named new (edited_name edit))) (is_listed place (place_named new (edited_name edit)) (ap (place_named new) one ∙ there))))
      (λ later. right (places_before_after old new (edited_name edit)) (edited_places edits old new) (named_listed there edits later))
      (or_cases (bytes_eq (edited_name edit) name) (list_any (λ edit. bytes_eq (edited_name edit) name) edits) h) where
        left : (xs ys : List ℕ) → is_among place xs ≡ true → is_among place (xs ++ ys) ≡ true
        left xs ys h = list_any-append (nat_eq place) xs ys ∙ or_left (is_among place xs) (is_among place ys) h

        right : (xs ys : List ℕ) → is_among place ys ≡ true → is_among place (xs ++ ys) ≡ true
        right xs ys h = list_any-append (nat_eq place) xs ys ∙ or_right (is_among place xs) (is_among place ys) h

-- a stage that has a name has no other
one_name : (name : List ℕ) (here : Option Stage) (stage : Stage) → here ≡ Some stage → has_name name here ≡ true → name ≡ stage.name
one_name name None stage e h = cc
one_name name (Some other) stage e h =
    let own : other.name ≡ name = (bytes_eq-Decides other.name name).0 h in
    let same : other ≡ stage = the other stage e in
    sym own ∙ ap (λ (x : Stage). x.name) same where
      the : (a b : Stage) → Some a ≡ Some b → a ≡ b
      the a b e = cc

-- what stood where a stage stands had its name
stood : (edits : List Edit) (was : Option Stage) (stage : Stage) (name : List ℕ) → Becomes edits was (Some stage) → has_name name was ≡ true → name ≡ stage.name
stood edits None stage name becomes h = cc
stood edits (Some was) stage name becomes h = one_name name (Some was) was refl h ∙ sym becomes.same_name

module _ (edits : List Edit) (old new : PlainGraph) (sound : IsSound new) (change : IsChangeBy edits old new) where
  among_edited : (place : ℕ) (stage : Stage) → stage_at new.places place ≡ Some stage → is_among place (edited_places edits old.places new.places) ≡ is_edited edits (Some stage)
  among_edited place stage is =
      same_tests (is_among place (edited_places edits old.places new.places)) (is_edited edits (Some stage))
      (listed_named old.places new.places place stage.name
      (λ other found. stood edits (stage_at old.places place) stage other (subst (Becomes edits (stage_at old.places place)) is (change.each place)) (named_at old.places other place found).1)
      (λ other found. one_name other (stage_at new.places place) stage is (named_at new.places other place found).1)
      edits)
      (named_listed old.places new.places place stage.name (sound.stages place stage is).by_name edits)

  same_touch : (reached : Bool) (place : ℕ) (here : Option Stage) → stage_at new.places place ≡ here
      → (is_some here && (is_among place (edited_places edits old.places new.places) || reached)) ≡ (is_some here && (is_edited edits here || reached))
  same_touch reached place None is = refl
  same_touch reached place (Some stage) is = ap (λ b. b || reached) (among_edited place stage is)

  -- the touched stages by the edited places are those by the edits
  pub touched_by_places : (step : Step) → touched step old.places new.places (λ place. is_among place (edited_places edits old.places new.places))
      ≡ touched step old.places new.places (λ place. is_edited edits (stage_at new.places place))
  touched_by_places step =
      ap (λ (tests : ℕ → Bool). flat_map (λ level. filter (λ place. rank new.places place == level && tests place) (all_places new.places)) (all_places new.places))
      (same_function (λ place.
      same_touch (list_any (λ read. differ (seen_at (at step old.places) read) (seen_at (at step new.places) read)) (reads_at step old.places place)) place (stage_at new.places place) refl))

-- the places of the stages that the list names are places of the new graph
pub edited_within : (old new : Stages) → length old ≤ length new → (edits : List Edit) (place : ℕ) → is_among place (edited_places edits old new) ≡ true → place < length new
edited_within old new longer [] place h = absurd (impossible h) where
  impossible : false ≡ true → ⊥
  impossible e = cc
edited_within old new longer (edit ∷ edits) place h =
    ⊎_elim
    (λ here.
    ⊎_elim
    (λ l. let within : place < length old = (named_at old (edited_name edit) place (listed_is place (place_named old (edited_name edit)) l)).0 in omega arith)
    (λ r. (named_at new (edited_name edit) place (listed_is place (place_named new (edited_name edit)) r)).0)
    (parts (listed (place_named old (edited_name edit))) (listed (place_named new (edited_name edit))) here))
    (λ later. edited_within old new longer edits place later)
    (parts (places_before_after old new (edited_name edit)) (edited_places edits old new) h) where
      parts : (xs ys : List ℕ) → is_among place (xs ++ ys) ≡ true → (is_among place xs ≡ true) ⊎ (is_among place ys ≡ true)
      parts xs ys h = or_cases (is_among place xs) (is_among place ys) (sym (list_any-append (nat_eq place) xs ys) ∙ h)

pub all_edited_within : (old new : Stages) → length old ≤ length new → (edits : List Edit) (places : List ℕ) → places ≡ edited_places edits old new → All (λ place. place < length new) places
all_edited_within old new longer edits places e k d l =
    edited_within old new longer edits (get_or places k d)
    (ap (is_among (get_or places k d)) (sym e) ∙ contains_among (get_or places k d) places (Contains-get_or places k d l))

-- the graph changes only at these places
pub change_between : (edits : List Edit) (old new : PlainGraph) (places : List ℕ) → IsSound old → IsSound new → IsChangeBy edits old new → places ≡ edited_places edits old.places new.places
    → IsChange old.places new.places (λ place. is_among place places)
change_between edits old new places sound_old sound_new change e = record {
  longer = change.longer;
  elsewhere = λ place none. same_elsewhere edits old new sound_old sound_new change place (ap (is_among place) (sym e) ∙ none);
}

-- the changed graph is ranked, and the count has not fallen, and has risen by no more than the touched stages
pub count_of_ranked : (touches : PlainGraph → List ℕ) (answer : Result PlainGraph Refused) (graph : PlainGraph) (before after : ℕ) → answer ≡ Ok graph → IsRanked graph.places → (before ≤ after) × (after ≤ before + length (touches graph))
    → IsCountOf touches answer before after
count_of_ranked touches answer graph before after is ranked both = subst (λ (answer : Result PlainGraph Refused). IsCountOf touches answer before after) (sym is) (inr (ranked, both))
