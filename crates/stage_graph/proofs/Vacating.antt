-- A graph with one more stage, or with one stage less.
use Rattle.std.proofs.Common.{Bool, true, false, cond, ◌≡◌, ◌≢◌, ◌<◌, ◌+◌, ◌||◌, ℕ, inl, inr, List, [], ◌∷◌, ◌++◌, length, Option, Some, None, is_some, sym, refl, ap, ◌∙◌, subst, nat_eq, arith}
use Rattle.std.specs.Prelude.{All}
use Rattle.std.specs.List.{list_any}
use Rattle.std.specs.Str.{bytes_eq}
use Rattle.std.proofs.Math.ListN.{set, length-set}
use Rattle.std.proofs.lemmas.Bool.{cases_lt, eqb-false}
use Rattle.std.proofs.lemmas.List.{get_or_append_left, get_or_push, length-append}
use Rattle.std.proofs.lemmas.List.Elements.{All-nil, All-cons}
use Rattle.std.proofs.lemmas.Option.{same_Some}
use Rattle.std.proofs.lemmas.Slice.Eq.{bytes_eq-Decides}
use Rattle.act_expr.specs.declared.outcome.Mode.{Mode}
use Rattle.stage_graph.specs.declared.stage.Stage.{Stage}
use Rattle.stage_graph.specs.Plain.{stage_at, has_name, place_named, feeds_of, IsLive, uses}
use Rattle.stage_graph.specs.Edits.{first_dependent}
use Rattle.stage_graph.specs.Sound.{IsSound, IsSoundStage, IsLawful}
use Rattle.stage_graph.proofs.Lists.{set_cases}
use Rattle.stage_graph.proofs.Positions.{position_push, position_none, none_before}
use Rattle.stage_graph.proofs.Placing.{place_from_live, live_from_name, named_at, place_named-set}

module _ (mode : Mode) (places : List (Option Stage)) (stage : Stage) where
  long : length (places ++ Some stage ∷ []) ≡ length places + 1
  long = length-append places (Some stage ∷ [])

  live-push : (feed : ℕ) → IsLive places feed → IsLive (places ++ Some stage ∷ []) feed
  live-push feed live = ap is_some (get_or_append_left places (Some stage ∷ []) None feed (place_from_live places feed live)) ∙ live

  pub names_after_append : (name : List ℕ) → place_named (places ++ Some stage ∷ []) name
      ≡ cond (is_some (place_named places name)) (place_named places name) (cond (bytes_eq stage.name name) (Some (length places)) None)
  names_after_append name = position_push (has_name name) places (Some stage)

  -- the place of the new stage's name, and those of the others
  pub found_after_append : place_named places stage.name ≡ None → (name : List ℕ)
      → cond (bytes_eq stage.name name) (Some (length places)) (place_named places name) ≡ place_named (places ++ Some stage ∷ []) name
  found_after_append free name = by_name (place_named places name) (bytes_eq stage.name name) (λ same.
      ap (place_named places) (sym ((bytes_eq-Decides stage.name name).0 same)) ∙ free) ∙ sym (names_after_append name) where
        by_name : (old : Option ℕ) (same : Bool) → (same ≡ true → old ≡ None)
            → cond same (Some (length places)) old ≡ cond (is_some old) old (cond same (Some (length places)) None)
        by_name None true absent = refl
        by_name None false absent = refl
        by_name (Some first) false absent = refl
        by_name (Some first) true absent = let clash : Some first ≡ None = absent refl in cc

  pub sound_after_append : length places < 65536 → place_named places stage.name ≡ None → stage.place ≡ length places → IsLawful stage → All (IsLive places) (feeds_of stage)
      → IsSound (record { mode = mode; places = places }) → IsSound (record { mode = mode; places = places ++ Some stage ∷ [] })
  sound_after_append room free place lawful feeds kept = record {
    few = omega (arith, long, room);
    stages = λ other found here. elim (cases_lt other (length places)) [
      | inl inside ↦
          let was = kept.stages other found (sym (get_or_append_left places (Some stage ∷ []) None other inside) ∙ here) in
          record {
            lawful = was.lawful;
            own_place = was.own_place;
            by_name = names_after_append found.name ∙ rw was.by_name refl;
            live_feeds = λ k d short. live-push _ (was.live_feeds k d short);
          }
      | inr past ↦
          let within : other < length (places ++ Some stage ∷ []) = place_from_live (places ++ Some stage ∷ []) other (ap is_some here) in
          let end : length places ≡ other = omega (arith, long, within, past) in
          let is : stage ≡ found = same_Some stage found (sym (get_or_push places (Some stage) None other end) ∙ here) in
          let own : bytes_eq stage.name stage.name ≡ true = (bytes_eq-Decides stage.name stage.name).1 refl in
          subst (IsSoundStage (places ++ Some stage ∷ []) other) is (record {
            lawful = lawful;
            own_place = place ∙ end;
            by_name = names_after_append stage.name ∙ rw (free, own) (ap Some end);
            live_feeds = λ k d short. live-push _ (feeds k d short);
          })
    ];
  }

-- no feed is the place
not_any : (place : ℕ) (feeds : List ℕ) → list_any (nat_eq place) feeds ≡ false → All (λ feed. feed ≢ place) feeds
not_any place [] none = All-nil (λ feed. feed ≢ place)
not_any place (feed ∷ feeds) none =
    let parts = neither (nat_eq place feed) (list_any (nat_eq place) feeds) none in
    All-cons (λ feed. feed ≢ place) feed feeds (λ same. eqb-false place feed parts.0 (sym same)) (not_any place feeds parts.1) where
      neither : (a b : Bool) → (a || b) ≡ false → (a ≡ false) × (b ≡ false)
      neither true b none = cc
      neither false b none = (refl, none)

module _ (mode : Mode) (places : List (Option Stage)) (kept : IsSound (record { mode = mode; places = places })) where
  -- another place has another name
  pub name_apart : (place other : ℕ) (found : Stage) → stage_at places other ≡ Some found → other ≢ place → (here : Option Stage) → stage_at places place ≡ here
      → (named : Bool) → has_name found.name here ≡ named → named ≡ false
  name_apart place other found there differ None is named at = sym at
  name_apart place other found there differ (Some stage) is false at = refl
  name_apart place other found there differ (Some stage) is true at =
      let same : stage.name ≡ found.name = (bytes_eq-Decides stage.name found.name).0 at in
      let one : Some place ≡ Some other = sym (kept.stages place stage is).by_name ∙ ap (place_named places) same ∙ (kept.stages other found there).by_name in
      absurd (differ (sym (same_Some place other one)))

  -- no other place has the name
  not_elsewhere : (name : List ℕ) (place other : ℕ) → place_named places name ≡ Some place → other ≢ place → (here : Option Stage) → stage_at places other ≡ here
      → (named : Bool) → has_name name here ≡ named → named ≡ false
  not_elsewhere name place other at differ None is named here = sym here
  not_elsewhere name place other at differ (Some stage) is false here = refl
  not_elsewhere name place other at differ (Some stage) is true here =
      let same : stage.name ≡ name = (bytes_eq-Decides stage.name name).0 here in
      let one : Some place ≡ Some other = sym at ∙ ap (place_named places) (sym same) ∙ (kept.stages other stage is).by_name in
      absurd (differ (sym (same_Some place other one)))

  module _ (name : List ℕ) (place : ℕ) (at : place_named places name ≡ Some place) where
    abbrev vacant : List (Option Stage)
    vacant = set places place None

    pub live_named : IsLive places place
    live_named = live_from_name name (stage_at places place) (named_at places name place at).1

    nobody : (other : ℕ) → has_name name (stage_at vacant other) ≡ false
    nobody other = elim (set_cases places place other None None (named_at places name place at).0) [
      | inl (same, now) ↦ ap (has_name name) now
      | inr (differ, now) ↦ ap (has_name name) now ∙ not_elsewhere name place other at differ (stage_at places other) refl (has_name name (stage_at places other)) refl
    ]

    others : (other : List ℕ) → bytes_eq name other ≡ false → place_named vacant other ≡ place_named places other
    others other differ = place_named-set places place None other (sym (not_named (stage_at places place) (named_at places name place at).1)) where
      not_named : (here : Option Stage) → has_name name here ≡ true → has_name other here ≡ false
      not_named None named = refl
      not_named (Some stage) named = ap (λ own. bytes_eq own other) ((bytes_eq-Decides stage.name name).0 named) ∙ differ

    -- the name has no place, and the others have theirs
    pub found_after_vacate : (other : List ℕ) → cond (bytes_eq name other) None (place_named places other) ≡ place_named vacant other
    found_after_vacate other = by_name (bytes_eq name other) refl where
      by_name : (same : Bool) → bytes_eq name other ≡ same → cond same None (place_named places other) ≡ place_named vacant other
      by_name true is = sym (position_none (has_name other) vacant None (λ k within.
          ap (λ own. has_name own (stage_at vacant k)) (sym ((bytes_eq-Decides name other).0 is)) ∙ nobody k))
      by_name false is = sym (others other is)

  module _ (place : ℕ) (live : IsLive places place) (unused : first_dependent places place ≡ None) where
    within : place < length places
    within = place_from_live places place live

    live-vacate : (feed : ℕ) → feed ≢ place → IsLive places feed → IsLive (set places place None) feed
    live-vacate feed differ live = elim (set_cases places place feed None None within) [
      | inl (same, now) ↦ absurd (differ same)
      | inr (other, now) ↦ ap is_some now ∙ live
    ]

    pub sound_after_vacate : IsSound (record { mode = mode; places = set places place None })
    sound_after_vacate = record {
      few = omega (arith, length-set places place None, kept.few);
      stages = λ other found here. elim (set_cases places place other None None within) [
        | inl (at, now) ↦ let clash : None ≡ Some found = sym now ∙ here in cc
        | inr (differ, now) ↦
            let there : stage_at places other ≡ Some found = sym now ∙ here in
            let was = kept.stages other found there in
            let apart : has_name found.name (stage_at places place) ≡ false = name_apart place other found there differ (stage_at places place) refl _ refl in
            let none : uses place (Some found) ≡ false = ap (uses place) (sym there) ∙ none_before (uses place) places None unused other (place_from_live places other (ap is_some there)) in
            let apart_feeds = not_any place (feeds_of found) none in
            record {
              lawful = was.lawful;
              own_place = was.own_place;
              by_name = place_named-set places place None found.name (sym apart) ∙ was.by_name;
              live_feeds = λ k d short. live-vacate _ (apart_feeds k d short) (was.live_feeds k d short);
            }
      ];
    }
