-- Who is told of the changes of a level, with one place more.
use Rattle.std.proofs.Common.{◌≡◌, ◌+◌, ◌<◌, ◌++◌, ◌∷◌, [], ℕ, zero, suc, Bool, false, List, Option, None, length, length-append, get_or, refl, ap, sym, ◌∙◌, subst, arith, ⊎_elim}
use Rattle.std.proofs.lemmas.Bool.{cases_lt}
use Rattle.std.proofs.lemmas.List.{get_or_push}
use Rattle.stage_ops.specs.declared.state.State.{State}
use Rattle.propagate.specs.Telling.{is_another, AreCompared}

pushed_before : {A : Type 0} (xs : List A) (x d : A) (at : ℕ) → at < length xs → get_or (xs ++ x ∷ []) at d ≡ get_or xs at d
pushed_before [] x d at within = absurd (omega arith)
pushed_before (first ∷ xs) x d zero within = refl
pushed_before (first ∷ xs) x d (suc at) within = pushed_before xs x d at (omega arith)

-- within a list it doesn't matter what stands past its end
pub within_any : {A : Type 0} (xs : List A) (at : ℕ) (d other : A) → at < length xs → get_or xs at d ≡ get_or xs at other
within_any [] at d other within = absurd (omega arith)
within_any (first ∷ xs) zero d other within = refl
within_any (first ∷ xs) (suc at) d other within = within_any xs at d other (omega arith)

-- what holds of each of the first items, and of the next one, holds of one more
one_more : {A : Type 0} (P : ℕ → A → Type 0) (d : A) (count : ℕ) (items more : List A) (item : A) → length items ≡ count → more ≡ items ++ item ∷ []
    → ((at : ℕ) → at < count → P at (get_or items at d)) → P count item → (at : ℕ) → at < count + 1 → P at (get_or more at d)
one_more P d count items more item long grown each next at within =
    ⊎_elim
    (λ before.
    let inside : at < length items = omega (arith, before, long) in
    subst (P at) (sym (ap (λ items. get_or items at d) grown ∙ pushed_before items item d at inside)) (each at before))
    (λ past.
    let same : count ≡ at = omega (arith, past, within) in
    subst (λ n. P n (get_or more n d)) same (subst (P count) (sym (ap (λ items. get_or items count d) grown ∙ get_or_push items item d count long)) next))
    (cases_lt at count)

pushed_long : {A : Type 0} (items more : List A) (item : A) (count : ℕ) → length items ≡ count → more ≡ items ++ item ∷ [] → length more ≡ count + 1
pushed_long items more item count long grown = omega (arith, ap length grown, length-append items (item ∷ []), long)

module _ (states : List State) (level : List ℕ) (results : List (Option State)) where
  pub one_compared : (count : ℕ) (changed more : List Bool) (next : Bool) → AreCompared states level results count changed → more ≡ changed ++ next ∷ []
      → next ≡ is_another states (get_or level count 0) (get_or results count None) → AreCompared states level results (count + 1) more
  one_compared count changed more next are grown is = record {
    long = pushed_long changed more next count are.long grown;
    each = one_more (λ at b. b ≡ is_another states (get_or level at 0) (get_or results at None)) false count changed more next are.long grown are.each is;
  }
