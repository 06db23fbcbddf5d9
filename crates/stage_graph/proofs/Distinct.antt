-- Names of which each stands at one place of a list.
use Rattle.std.proofs.Common.{◌≡◌, ◌+◌, ℕ, Bool, true, false, cond, List, [], ◌∷◌, Option, Some, None, is_some, refl, sym, ap, subst, ◌∙◌}
use Rattle.std.specs.List.{position_from}
use Rattle.std.specs.Str.{bytes_eq}
use Rattle.std.proofs.lemmas.Slice.Eq.{bytes_eq-Decides}
use Rattle.stage_graph.specs.declared.stage.Spec.{Spec}
use Rattle.stage_graph.specs.Loading.{AreFirst}

-- a name has this place now, and the others have theirs
abbrev pub Sets : (List ℕ → Option ℕ) → (List ℕ → Option ℕ) → ℕ → List ℕ → Type 0
Sets find new place name = (other : List ℕ) → new other ≡ cond (bytes_eq name other) (Some place) (find other)

module _ (find new : List ℕ → Option ℕ) (name : List ℕ) (place : ℕ) (none : find name ≡ None) (sets : Sets find new place name) where
  other_stays : (other : List ℕ) (at : ℕ) → find other ≡ Some at → (same : Bool) → bytes_eq name other ≡ same → new other ≡ Some at
  other_stays other at there true same =
      let is : name ≡ other = (bytes_eq-Decides name other).0 same in
      absurd (let clash : None ≡ Some at = sym none ∙ ap find is ∙ there in cc)
  other_stays other at there false same = sets other ∙ ap (λ same. cond same (Some place) (find other)) same ∙ there

  -- a name that was nowhere leaves the others where they are
  pub others_stay_first : (from : ℕ) (specs : List Spec) → AreFirst find from specs → AreFirst new from specs
  others_stay_first from [] first = tt
  others_stay_first from (spec ∷ specs) first = (other_stays spec.name from first.0 (bytes_eq name spec.name) refl, others_stay_first (from + 1) specs first.1)

  -- and is itself where it is set
  pub is_set : new name ≡ Some place
  is_set = sets name ∙ ap (λ same. cond same (Some place) (find name)) ((bytes_eq-Decides name name).1 refl)

-- a name that has no place
pub none_of : (place : Option ℕ) → is_some place ≡ false → place ≡ None
none_of None is = refl
none_of (Some place) is = absurd cc

-- the first places of the names from a stage on, by those of the names after it
pub first_with : (find new : List ℕ → Option ℕ) (spec : Spec) (place after : ℕ) (rest : List Spec) → after ≡ place + 1
    → Sets find new place spec.name
    → ((name : List ℕ) → find name ≡ position_from (λ (spec : Spec). bytes_eq spec.name name) after rest)
    → (name : List ℕ) → new name ≡ position_from (λ (spec : Spec). bytes_eq spec.name name) place (spec ∷ rest)
first_with find new spec place after rest next sets first name =
    sets name ∙ ap (cond (bytes_eq spec.name name) (Some place)) (first name ∙ ap (λ k. position_from (λ (spec : Spec). bytes_eq spec.name name) k rest) next)

-- and each of them has its own if each after it has, and its name is none of theirs
pub own_with : (find new : List ℕ → Option ℕ) (spec : Spec) (place after : ℕ) (rest : List Spec) → after ≡ place + 1
    → Sets find new place spec.name
    → find spec.name ≡ None → AreFirst find after rest → AreFirst new place (spec ∷ rest)
own_with find new spec place after rest next sets none first =
    (is_set find new spec.name place none sets, others_stay_first find new spec.name place none sets (place + 1) rest (subst (λ k. AreFirst find k rest) next first))
