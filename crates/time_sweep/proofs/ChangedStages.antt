-- The changed stages of a trial: which of them stands at a place, and which are marked.
use Rattle.std.proofs.Common.{◌≡◌, ℕ, zero, suc, ◌+◌, ◌<◌, ◌≤◌, Bool, true, false, List, [], ◌∷◌, Option, Some, None, Ok, Err, cond, length, get_or, take, refl, ap, sym, ◌∙◌, arith, subst, ⊎_elim}
use Rattle.std.specs.Prelude.{All, is_some, slice_get, ◌==◌, ◌&&◌, ◌||◌}
use Rattle.std.specs.List.Sorted.{IsBinarySearchResult, IsNonDecreasingBy}
use Rattle.std.specs.Ordering.{nat_cmp, ordering_index}
use Rattle.std.proofs.lemmas.Bool.{cases_Bool, cases_lt, cond-false, cond-true, eq-eqb, eqb-true, false≢true, true≢false}
use Rattle.std.proofs.lemmas.Bool.Decides.{nat_tests}
use Rattle.std.proofs.lemmas.Cmp.{ranked}
use Rattle.std.proofs.lemmas.List.Elements.{All-head, All-tail}
use Rattle.std.proofs.lemmas.List.Folds.{list_any_more}
use Rattle.std.proofs.lemmas.Option.{same_Some}
use Rattle.stage_graph.specs.declared.stage.Stage.{Stage}
use Rattle.propagate.proofs.Members.{false_unless}
use Rattle.time_sweep.specs.WithStage.{is_changed, stage_among, Ascend}

-- ---- which of them stands at a place

-- the others ascend too
pub ascend_tail : (stage : Stage) (stages : List Stage) → Ascend (stage ∷ stages) → Ascend stages
ascend_tail stage stages ascend i j d below short = ascend (suc i) (suc j) d (omega arith) (omega arith)

-- and come after the first
pub ascend_head : (stage : Stage) (stages : List Stage) → Ascend (stage ∷ stages) → (k : ℕ) (d : Stage) → k < length stages → stage.place < (get_or stages k d).place
ascend_head stage stages ascend k d short = ascend 0 (suc k) d (omega arith) (omega arith)

apart : (place own : ℕ) → own < place → (place == own) ≡ false
apart place own below = false_unless (place == own) (λ same. let is : place ≡ own = eqb-true place own same in omega arith)

-- where none of them stands
pub none_among : (stages : List Stage) (place : ℕ) → ((k : ℕ) (d : Stage) → k < length stages → (place == (get_or stages k d).place) ≡ false) → stage_among stages place ≡ None
none_among [] place others = refl
none_among (stage ∷ stages) place others =
    cond-false (place == stage.place) (Some stage) (stage_among stages place) (others 0 stage (omega arith))
    ∙ none_among stages place (λ k d short. others (suc k) d (omega arith))

-- and where one does
pub one_among : (stages : List Stage) → Ascend stages → (k : ℕ) (d : Stage) → k < length stages → stage_among stages (get_or stages k d).place ≡ Some (get_or stages k d)
one_among [] ascend k d short = absurd (omega arith)
one_among (stage ∷ stages) ascend zero d short = cond-true (stage.place == stage.place) (Some stage) (stage_among stages stage.place) (eq-eqb stage.place stage.place refl)
one_among (stage ∷ stages) ascend (suc k) d short =
    cond-false ((get_or stages k d).place == stage.place) (Some stage) (stage_among stages (get_or stages k d).place)
    (apart (get_or stages k d).place stage.place (ascend_head stage stages ascend k d (omega arith)))
    ∙ one_among stages (ascend_tail stage stages ascend) k d (omega arith)

-- the one that is found stands there
pub among_place : (stages : List Stage) (place : ℕ) (stage : Stage) → stage_among stages place ≡ Some stage → place ≡ stage.place
among_place [] place stage is = cc
among_place (first ∷ stages) place stage is =
    ⊎_elim
    (λ same. eqb-true place first.place same ∙ ap (λ (one : Stage). one.place) (same_Some first stage (sym (cond-true (place == first.place) (Some first) (stage_among stages place) same) ∙ is)))
    (λ other. among_place stages place stage (sym (cond-false (place == first.place) (Some first) (stage_among stages place) other) ∙ is))
    (cases_Bool (place == first.place))

-- and what holds of each holds of it
pub among_all : (P : Stage → Type 0) (stages : List Stage) (place : ℕ) (stage : Stage) → All P stages → stage_among stages place ≡ Some stage → P stage
among_all P [] place stage all is = cc
among_all P (first ∷ stages) place stage all is =
    ⊎_elim
    (λ same. subst P (same_Some first stage (sym (cond-true (place == first.place) (Some first) (stage_among stages place) same) ∙ is)) (All-head P first stages all))
    (λ other. among_all P stages place stage (All-tail P first stages all) (sym (cond-false (place == first.place) (Some first) (stage_among stages place) other) ∙ is))
    (cases_Bool (place == first.place))

-- the place is one of a changed stage
pub is_changed_among : (stages : List Stage) (place : ℕ) → is_changed stages place ≡ is_some (stage_among stages place)
is_changed_among [] place = refl
is_changed_among (stage ∷ stages) place = of (place == stage.place) (is_changed_among stages place) where
  of : (same : Bool) → is_changed stages place ≡ is_some (stage_among stages place) → (same || is_changed stages place) ≡ is_some (cond same (Some stage) (stage_among stages place))
  of true rest = refl
  of false rest = rest

-- ---- a search for it

module _ (stages : List Stage) (ascend : Ascend stages) (place : ℕ) where
  comparisons_rise : IsNonDecreasingBy (λ (stage : Stage). ordering_index (nat_cmp stage.place place)) stages
  comparisons_rise i j d le short =
      ⊎_elim
      (λ (below : i < j). let rise = ascend i j d below short in higher (get_or stages i d).place (get_or stages j d).place (omega (arith, rise)))
      (λ (past : j ≤ i). let same : i ≡ j = omega arith in higher (get_or stages i d).place (get_or stages j d).place (let as_high : (get_or stages i d).place ≡ (get_or stages j d).place = ap (λ k. (get_or stages k d).place) same in omega (arith, as_high)))
      (cases_lt i j) where
        higher : (a b : ℕ) → a ≤ b → ordering_index (nat_cmp a place) ≤ ordering_index (nat_cmp b place)
        higher a b le = grind (arith, nat_tests)

  pub found_by_search : (at : ℕ) → at < length stages → IsBinarySearchResult (λ (stage : Stage). nat_cmp stage.place place) stages (Ok at) → (d : Stage) → stage_among stages place ≡ Some (get_or stages at d)
  found_by_search at short equal d =
      let here : (get_or stages at d).place ≡ place = ranked (get_or stages at d).place place _ (sym (equal d)) in
      ap (stage_among stages) (sym here) ∙ one_among stages ascend at d short

  pub missed_by_search : (at : ℕ) → IsBinarySearchResult (λ (stage : Stage). nat_cmp stage.place place) stages (Err at) → stage_among stages place ≡ None
  missed_by_search at parted =
      none_among stages place (λ k d short.
      ⊎_elim
      (λ (before : k < at).
      let less : (get_or stages k d).place < place = ranked (get_or stages k d).place place _ (sym ((parted comparisons_rise).0 k d (omega arith) before)) in
      false_unless (place == (get_or stages k d).place) (λ same. let is : place ≡ (get_or stages k d).place = eqb-true place (get_or stages k d).place same in omega (arith, less, is)))
      (λ (after : at ≤ k).
      let greater : place < (get_or stages k d).place = ranked (get_or stages k d).place place _ (sym ((parted comparisons_rise).1 k d after short)) in
      false_unless (place == (get_or stages k d).place) (λ same. let is : place ≡ (get_or stages k d).place = eqb-true place (get_or stages k d).place same in omega (arith, greater, is)))
      (cases_lt k at))

-- the first of them alone, or where there are more
pub first_among : (stages : List Stage) (place : ℕ) (first : Stage) → slice_get stages 0 ≡ Some first → first.place ≡ place → stage_among stages place ≡ Some first
first_among [] place first is here = cc
first_among (stage ∷ stages) place first is here =
    let own : stage ≡ first = same_Some stage first is in
    cond-true (place == stage.place) (Some stage) (stage_among stages place) (eq-eqb place stage.place (sym here ∙ ap (λ (one : Stage). one.place) (sym own)))
    ∙ ap (λ (one : Stage). Some one) own

pub only_elsewhere : (stages : List Stage) (place : ℕ) (first : Stage) → slice_get stages 0 ≡ Some first → (first.place ≡ place → ⊥) → length stages ≡ 1 → stage_among stages place ≡ None
only_elsewhere [] place first is other one = refl
only_elsewhere (stage ∷ []) place first is other one =
    let own : stage ≡ first = same_Some stage first is in
    cond-false (place == stage.place) (Some stage) None
    (false_unless (place == stage.place) (λ same. other (ap (λ (one : Stage). one.place) (sym own) ∙ sym (eqb-true place stage.place same))))
only_elsewhere (stage ∷ next ∷ stages) place first is other one = absurd (omega arith)

pub none_changed : (stages : List Stage) (place : ℕ) → slice_get stages 0 ≡ None → stage_among stages place ≡ None
none_changed [] place is = refl
none_changed (stage ∷ stages) place is = cc

-- ---- the marks at the beginning of a trial

-- one of them more
pub marked_next : (known : ℕ → Bool) (stages : List Stage) (k : ℕ) (d : Stage) (place : ℕ) → k < length stages
    → ((known place && is_changed (take k stages) place) || (known (get_or stages k d).place && place == (get_or stages k d).place)) ≡ (known place && is_changed (take (k + 1) stages) place)
marked_next known stages k d place short =
    turn (place == (get_or stages k d).place) (known (get_or stages k d).place) (known place) (is_changed (take k stages) place)
    (λ same. ap known (sym (eqb-true place (get_or stages k d).place same)))
    ∙ ap (λ b. known place && b) (sym (list_any_more (λ (stage : Stage). place == stage.place) stages k d short)) where
      turn : (same there here among : Bool) → (same ≡ true → there ≡ here) → ((here && among) || (there && same)) ≡ (here && (among || same))
      turn true true true among e = refl
      turn true false false among e = refl
      turn true true false among e = absurd (true≢false (e refl))
      turn true false true among e = absurd (false≢true (e refl))
      turn false true true true e = refl
      turn false true true false e = refl
      turn false true false among e = refl
      turn false false true true e = refl
      turn false false true false e = refl
      turn false false false among e = refl
