-- A list of stages that pass each check makes a sound graph.
use Rattle.std.proofs.Common.{true, cond, not, ◌≡◌, ◌<◌, ◌≤◌, ◌+◌, ◌^◌, ℕ, zero, suc, inl, inr, List, [], ◌∷◌, length, Option, Some, None, unwrap_or, sym, refl, ap, ◌∙◌, subst, arith, add-zero}
use Rattle.std.specs.Prelude.{slice_get}
use Rattle.std.specs.List.{position_or_len}
use Rattle.std.specs.Str.{bytes_eq}
use Rattle.std.proofs.lemmas.Bool.{eqb-true}
use Rattle.std.proofs.lemmas.Option.{same_Some, slice_get_cases}
use Rattle.act_expr.specs.declared.outcome.Mode.{Mode}
use Rattle.stage_graph.specs.declared.stage.Stage.{Stage}
use Rattle.stage_graph.specs.declared.stage.Spec.{Spec}
use Rattle.stage_graph.specs.declared.fault.Refusal.{Refusal}
use Rattle.stage_graph.specs.declared.fault.Refused.{Refused}
use Rattle.stage_graph.specs.Plain.{stage_at, has_name, place_named}
use Rattle.stage_graph.specs.Checks.{checks_of}
use Rattle.stage_graph.specs.Names.{place_of, stage_of}
use Rattle.stage_graph.specs.Loading.{is_first, refusal_of, or_later, first_refused, stages_from}
use Rattle.stage_graph.specs.Sound.{IsSound, IsSoundStage}
use Rattle.std.proofs.lemmas.List.Quantifiers.{position-Some}
use Rattle.stage_graph.proofs.Lists.{same_function}
use Rattle.stage_graph.proofs.Keeping.{Passes, passes}
use Rattle.stage_graph.proofs.Making.{within_places, lawful_stage, found_live}

none_later : (place : ℕ) (refusal : Option Refusal) (later : Option Refused) → or_later place refusal later ≡ None → (refusal ≡ None) × (later ≡ None)
none_later place None later none = (refl, none)
none_later place (Some refusal) later none = cc

module _ (find : List ℕ → Option ℕ) where
  pub length_made : (from : ℕ) (specs : List Spec) → length (stages_from find from specs) ≡ length specs
  length_made from [] = refl
  length_made from (spec ∷ specs) = ap suc (length_made (from + 1) specs)

  made_of : (from : ℕ) (specs : List Spec) (k : ℕ) (stage : Stage) → stage_at (stages_from find from specs) k ≡ Some stage
      → (spec : Spec) × (slice_get specs k ≡ Some spec) × (stage ≡ stage_of find (from + k) spec)
  made_of from [] k stage at = cc
  made_of from (spec ∷ specs) zero stage at =
      (spec, refl, same_Some stage (stage_of find from spec) (sym at) ∙ ap (λ place. stage_of find place spec) (sym (add-zero from)))
  made_of from (spec ∷ specs) (suc k) stage at =
      let later = made_of (from + 1) specs k stage at in
      let same : from + 1 + k ≡ from + suc k = omega arith in
      (later.0, later.1, later.2 ∙ ap (λ place. stage_of find place later.0) same)

  none_refused : (from : ℕ) (specs : List Spec) → first_refused find from specs ≡ None → (k : ℕ) (spec : Spec) → slice_get specs k ≡ Some spec → refusal_of find (from + k) spec ≡ None
  none_refused from [] none k spec at = cc
  none_refused from (first ∷ specs) none zero spec at =
      let parts = none_later from (refusal_of find from first) (first_refused find (from + 1) specs) none in
      ap (λ spec. refusal_of find (from + 0) spec) (sym (same_Some first spec at)) ∙ ap (λ place. refusal_of find place first) (add-zero from) ∙ parts.0
  none_refused from (first ∷ specs) none (suc k) spec at =
      let parts = none_later from (refusal_of find from first) (first_refused find (from + 1) specs) none in
      let same : from + suc k ≡ from + 1 + k = omega arith in
      ap (λ place. refusal_of find place spec) same ∙ none_refused (from + 1) specs parts.1 k spec at

  first_made : (name : List ℕ) (from : ℕ) (specs : List Spec) → position_or_len (has_name name) (stages_from find from specs) ≡ position_or_len (λ (spec : Spec). bytes_eq spec.name name) specs
  first_made name from [] = refl
  first_made name from (spec ∷ specs) = ap (λ later. cond (not (bytes_eq spec.name name)) (1 + later) 0) (first_made name (from + 1) specs)

  pub named_made : (from : ℕ) (specs : List Spec) (name : List ℕ) → place_named (stages_from find from specs) name ≡ place_of specs name
  named_made from specs name = rw (first_made name from specs, length_made from specs) refl

first_is : (place : ℕ) (found : Option ℕ) → is_first place found ≡ true → found ≡ Some place
first_is place None is = cc
first_is place (Some first) is = ap Some (eqb-true first place is)

module _ (mode : Mode) (specs : List Spec) (none : first_refused (place_of specs) 0 specs ≡ None) where
  passes_at : (k : ℕ) (spec : Spec) → slice_get specs k ≡ Some spec → Passes (checks_of (is_first k (place_of specs spec.name)) (place_of specs) k spec)
  passes_at k spec at =
      let zero_k : 0 + k ≡ k = omega arith in
      passes (checks_of (is_first k (place_of specs spec.name)) (place_of specs) k spec)
      (ap (λ place. refusal_of (place_of specs) place spec) (sym zero_k) ∙ none_refused (place_of specs) 0 specs none k spec at)

  pub few_specs : length specs ≤ 65536
  few_specs = elim ((slice_get_cases specs 65536).1) [
    | inl here ↦ absurd (omega (arith, within_places (is_first 65536 (place_of specs here.0.name)) (place_of specs) 65536 here.0 (passes_at 65536 here.0 here.2)))
    | inr past ↦ past.0
  ]

  pub sound_after_load : IsSound (record { mode = mode; places = stages_from (place_of specs) 0 specs })
  sound_after_load = record {
    few = omega (arith, few_specs, length_made (place_of specs) 0 specs);
    stages = λ place stage here.
        let made = made_of (place_of specs) 0 specs place stage here in
        let spec = made.0 in
        let pass = passes_at place spec made.1 in
        let zero_place : 0 + place ≡ place = omega arith in
        let is : stage_of (place_of specs) place spec ≡ stage = ap (λ place. stage_of (place_of specs) place spec) (sym zero_place) ∙ sym made.2 in
        subst (IsSoundStage (stages_from (place_of specs) 0 specs) place) is (record {
          lawful = lawful_stage (is_first place (place_of specs spec.name)) (place_of specs) place spec pass;
          own_place = refl;
          by_name = named_made (place_of specs) 0 specs spec.name ∙ first_is place (place_of specs spec.name) pass.free;
          live_feeds = found_live (stages_from (place_of specs) 0 specs) (place_of specs) (λ name. sym (named_made (place_of specs) 0 specs name)) spec.sources spec.inner pass.known;
        });
  }

-- where names are found, or else 0, is within a word
pub low_specs : (specs : List Spec) → length specs ≤ 65536 → (name : List ℕ) (found : Option ℕ) → found ≡ place_of specs name → unwrap_or found 0 < 2 ^ 32
low_specs specs few name None is = omega arith
low_specs [] few name (Some k) is = cc
low_specs (first ∷ specs) few name (Some k) is = omega (arith, few, (position-Some (λ (spec : Spec). bytes_eq spec.name name) (first ∷ specs) k first (sym is)).0)

-- the table finds what the list has
pub by_list : (find : List ℕ → Option ℕ) (specs : List Spec) → ((name : List ℕ) → find name ≡ place_of specs name) → first_refused find 0 specs ≡ first_refused (place_of specs) 0 specs
by_list find specs same = ap (λ (find : List ℕ → Option ℕ). first_refused find 0 specs) (same_function same)

pub stages_by_list : (find : List ℕ → Option ℕ) (specs : List Spec) → ((name : List ℕ) → find name ≡ place_of specs name) → stages_from find 0 specs ≡ stages_from (place_of specs) 0 specs
stages_by_list find specs same = ap (λ (find : List ℕ → Option ℕ). stages_from find 0 specs) (same_function same)
