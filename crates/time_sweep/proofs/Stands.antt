-- What was found to stand at some places, with one place more.
use Rattle.std.proofs.Common.{◌≡◌, ◌+◌, ◌<◌, ◌≤◌, ◌++◌, ◌∷◌, [], ℕ, zero, suc, List, Option, Some, None, length, true, is_some, refl, ap, sym, ◌∙◌, subst, arith, ⊎_elim}
use Rattle.std.proofs.lemmas.Bool.{cases_lt, false≢true}
use Rattle.std.proofs.lemmas.List.{get_or_past}
use Rattle.std.specs.Prelude.{IfSome}
use Rattle.std.specs.Option.{option_map}
use Rattle.stage_graph.specs.Plain.{stage_at, dependents}
use Rattle.stage_graph.specs.Sound.{IsSoundStage}
use Rattle.propagate.specs.Reach.{Stages}
use Rattle.time_sweep.specs.declared.standing.Standing.{Standing}
use Rattle.time_sweep.specs.Known.{IsKnown}
use Rattle.time_sweep.specs.Standing.{standing_at, AreStanding, IsStanding}

kept : (items : List (Option Standing)) (one : Option Standing) (place : ℕ) → place < length items → standing_at (items ++ one ∷ []) place ≡ standing_at items place
kept [] one place within = absurd (omega arith)
kept (first ∷ items) one zero within = refl
kept (first ∷ items) one (suc place) within = kept items one place (omega arith)

last : (items : List (Option Standing)) (one : Option Standing) (place : ℕ) → place ≡ length items → standing_at (items ++ one ∷ []) place ≡ one
last [] one zero here = refl
last [] one (suc place) here = cc
last (first ∷ items) one zero here = cc
last (first ∷ items) one (suc place) here = last items one place (omega (arith, here))

-- the first places, as many as this
abbrev pub AreFirst : Stages → List (Option ℕ) → ℕ → List (Option Standing) → Type 0
AreFirst stages ranks count items = (place : ℕ) → place < count → IsKnown ranks place → IsStanding stages place (standing_at items place)

module _ (stages : Stages) (ranks : List (Option ℕ)) where
  pub none_first : (items : List (Option Standing)) → AreFirst stages ranks 0 items
  none_first items place within known = absurd (omega (arith, within))

  pub one_more : (count : ℕ) (items more : List (Option Standing)) (one : Option Standing) → length items ≡ count → AreFirst stages ranks count items → more ≡ items ++ one ∷ []
      → (IsKnown ranks count → IsStanding stages count one) → AreFirst stages ranks (count + 1) more
  one_more count items more one long are grown found place within known =
      ⊎_elim
      (λ before.
      let inside : place < length items = omega (arith, before, long) in
      subst (IsStanding stages place) (sym (ap (λ items. standing_at items place) grown ∙ kept items one place inside)) (are place before known))
      (λ past.
      let here : place ≡ length items = omega (arith, past, within, long) in
      let same : place ≡ count = omega (arith, past, within) in
      subst (IsStanding stages place) (sym (ap (λ items. standing_at items place) grown ∙ last items one place here))
      (subst (λ n. IsStanding stages n one) (sym same) (found (subst (IsKnown ranks) same known))))
      (cases_lt place count)

  -- no rank is known past the end
  pub all_places : (count : ℕ) (items : List (Option Standing)) → length ranks ≤ count → AreFirst stages ranks count items → AreStanding stages ranks items
  all_places count items all are place known =
      ⊎_elim
      (λ within. are place within known)
      (λ past.
      let beyond : length ranks ≤ place = omega (arith, past, all) in
      absurd (false≢true (sym (ap is_some (get_or_past ranks place None beyond)) ∙ known)))
      (cases_lt place count)

-- what is told of a place whose rank is known
module _ (stages : Stages) (ranks : List (Option ℕ)) (standing : List (Option Standing)) (are : AreStanding stages ranks standing) (place : ℕ) (known : IsKnown ranks place)
    (found : Option Standing) (is : found ≡ standing_at standing place) where
  its : IsStanding stages place found
  its = subst (IsStanding stages place) (sym is) (are place known)

  pub its_stage_one : (one : Standing) → found ≡ Some one → Some one.stage.now ≡ stage_at stages place
  its_stage_one one here = sym (ap (λ (found : Option Standing). option_map (λ (one : Standing). one.stage.now) found) here) ∙ its.stage

  pub its_stage_none : found ≡ None → None ≡ stage_at stages place
  its_stage_none none = sym (ap (λ (found : Option Standing). option_map (λ (one : Standing). one.stage.now) found) none) ∙ its.stage

  pub its_sound_one : (one : Standing) → found ≡ Some one → IsSoundStage stages place one.stage.now
  its_sound_one one here = subst (λ (found : Option Standing). IfSome found (λ (one : Standing). IsSoundStage stages place one.stage.now)) here its.sound

  pub its_dependents : (one : Standing) → found ≡ Some one → one.dependents.now ≡ dependents stages place
  its_dependents one here = subst (λ (found : Option Standing). IfSome found (λ (one : Standing). one.dependents.now ≡ dependents stages place)) here its.dependents

  pub not_missing : found ≡ None → is_some (stage_at stages place) ≡ true → ⊥
  not_missing none live = false≢true (ap is_some (ap (λ (found : Option Standing). option_map (λ (one : Standing). one.stage.now) found) (sym none) ∙ its.stage) ∙ live)
