-- What stands at the places of a graph after one of them was set.
use Rattle.std.proofs.Common.{true, false, ◌≡◌, ◌<◌, ◌≤◌, ℕ, inl, inr, List, length, Option, Some, None, is_some, sym, refl, ap, ◌∙◌, subst, unwrap_or, ◌^◌, arith}
use Rattle.std.specs.Prelude.{IsSome}
use Rattle.std.specs.List.{position_or_len}
use Rattle.std.proofs.Math.ListN.{set, length-set}
use Rattle.std.proofs.lemmas.Bool.{cases_lt}
use Rattle.std.proofs.lemmas.List.{get_or_past}
use Rattle.std.proofs.lemmas.List.Folds.{position_or_len-set}
use Rattle.std.proofs.lemmas.List.Quantifiers.{position-Some}
use Rattle.std.proofs.lemmas.Option.{same_Some}
use Rattle.stage_graph.specs.declared.stage.Stage.{Stage}
use Rattle.act_expr.specs.declared.outcome.Mode.{Mode}
use Rattle.stage_graph.specs.Plain.{stage_at, has_name, place_named, IsLive}
use Rattle.stage_graph.specs.Sound.{IsSound, IsSoundStage}
use Rattle.std.specs.Str.{bytes_eq}
use Rattle.std.proofs.lemmas.Slice.Eq.{bytes_eq-Decides}
use Rattle.stage_graph.proofs.Lists.{set_cases}

pub place_from_live : (places : List (Option Stage)) (place : ℕ) → IsLive places place → place < length places
place_from_live places place live = elim (cases_lt place (length places)) [
  | inl within ↦ within
  | inr past ↦ let nothing : is_some (stage_at places place) ≡ false = ap is_some (get_or_past places place None past) in cc
]

pub live_from_name : (name : List ℕ) (here : Option Stage) → has_name name here ≡ true → IsSome here
live_from_name name None named = cc
live_from_name name (Some stage) named = refl

-- a place where a name is found
pub named_at : (places : List (Option Stage)) (name : List ℕ) (place : ℕ) → place_named places name ≡ Some place
    → (place < length places) × (has_name name (stage_at places place) ≡ true)
named_at places name place is = let at = position-Some (has_name name) places place None is in (at.0, at.1)

module _ (places : List (Option Stage)) (place : ℕ) (new : Option Stage) where
  pub place_named-set : (name : List ℕ) → has_name name new ≡ has_name name (stage_at places place) → place_named (set places place new) name ≡ place_named places name
  place_named-set name same =
      let first : position_or_len (has_name name) (set places place new) ≡ position_or_len (has_name name) places = position_or_len-set (has_name name) places place new None same in
      let long : length (set places place new) ≡ length places = length-set places place new in
      rw (first, long) refl

module _ (mode : Mode) (places : List (Option Stage)) (place : ℕ) (stage : Stage) (within : place < length places) where
  live-set : (feed : ℕ) → IsLive places feed → IsLive (set places place (Some stage)) feed
  live-set feed live = elim (set_cases places place feed (Some stage) None within) [
    | inl (same, now) ↦ ap is_some now
    | inr (differ, now) ↦ ap is_some now ∙ live
  ]

  -- another stage in place of the one of its name
  pub sound_replaced : ((name : List ℕ) → has_name name (Some stage) ≡ has_name name (stage_at places place)) → IsSoundStage places place stage
      → IsSound (record { mode = mode; places = places }) → IsSound (record { mode = mode; places = set places place (Some stage) })
  sound_replaced same sound kept =
      let long : length (set places place (Some stage)) ≡ length places = length-set places place (Some stage) in
      let moved : (other : ℕ) (found : Stage) → IsSoundStage places other found → IsSoundStage (set places place (Some stage)) other found = λ other found was. record {
        lawful = was.lawful;
        own_place = was.own_place;
        by_name = place_named-set places place (Some stage) found.name (same found.name) ∙ was.by_name;
        live_feeds = λ k d short. live-set _ (was.live_feeds k d short);
      } in
      record {
        few = omega (arith, long, kept.few);
        stages = λ other found here. elim (set_cases places place other (Some stage) None within) [
          | inl (at, now) ↦
              let is : stage ≡ found = same_Some stage found (sym now ∙ here) in
              moved other found (subst (IsSoundStage places other) is (subst (λ k. IsSoundStage places k stage) (sym at) sound))
          | inr (differ, now) ↦ moved other found (kept.stages other found (sym now ∙ here))
        ];
      }

-- a stage has the same names as the one of its name
pub same_name : (stage : Stage) (here : Option Stage) → has_name stage.name here ≡ true → (name : List ℕ) → has_name name (Some stage) ≡ has_name name here
same_name stage None named name = cc
same_name stage (Some old) named name = ap (λ own. bytes_eq own name) (sym ((bytes_eq-Decides old.name stage.name).0 named))

module _ (mode : Mode) (places : List (Option Stage)) (stage : Stage) (named : has_name stage.name (stage_at places stage.place) ≡ true) where
  pub named_within : stage.place < length places
  named_within = place_from_live places stage.place (live_from_name stage.name (stage_at places stage.place) named)

  pub sound_after_replace : IsSoundStage places stage.place stage → IsSound (record { mode = mode; places = places })
      → IsSound (record { mode = mode; places = set places stage.place (Some stage) })
  sound_after_replace = sound_replaced mode places stage.place stage named_within (same_name stage (stage_at places stage.place) named)

  pub names_after_replace : (name : List ℕ) → place_named (set places stage.place (Some stage)) name ≡ place_named places name
  names_after_replace name = place_named-set places stage.place (Some stage) name (same_name stage (stage_at places stage.place) named name)

-- where names are found, or else 0, is within a word
pub low_places : (places : List (Option Stage)) → length places ≤ 65536 → (name : List ℕ) (found : Option ℕ) → found ≡ place_named places name → unwrap_or found 0 < 2 ^ 32
low_places places few name None is = omega arith
low_places places few name (Some k) is = omega (arith, few, (named_at places name k (sym is)).0)
