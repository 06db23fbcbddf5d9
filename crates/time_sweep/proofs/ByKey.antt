-- A stable sort by a key lists those of each key in turn.
use Rattle.std.proofs.Common.{◌≡◌, ◌≢◌, ◌+◌, ◌<◌, ◌≤◌, ℕ, zero, suc, inl, inr, List, [], ◌∷◌, ◌++◌, Bool, true, false, cond, refl, sym, ap, ◌∙◌, arith, tests}
use Rattle.std.specs.Prelude.{All, filter, not, ◌&&◌, ◌==◌}
use Rattle.std.specs.List.Sorted.{IsNonDecreasingBy, IsStableByKey}
use Rattle.std.specs.Ordering.{is_lt, nat_cmp}
use Rattle.std.proofs.lemmas.Bool.Decides.{eqb_tells}
use Rattle.std.proofs.lemmas.List.Elements.{All-head, All-tail}
use Rattle.stage_graph.proofs.Lists.{same_function}
use Rattle.time_sweep.specs.ByKey.{at_key, by_key}

tie_is_key : (at other : ℕ) → (not (is_lt (nat_cmp at other)) && not (is_lt (nat_cmp other at))) ≡ (other == at)
tie_is_key at other = grind (arith, tests)

module _ (A : Type 0) (key : A → ℕ) where
  -- ---- those of a key

  at_by : (at : ℕ) (first : A) (rest : List A) (b : Bool) → (key first == at) ≡ b → at_key key (first ∷ rest) at ≡ cond b (first ∷ at_key key rest at) (at_key key rest at)
  at_by at first rest b is = ap (λ b. cond b (first ∷ at_key key rest at) (at_key key rest at)) is

  at_own : (at : ℕ) (first : A) (rest : List A) → key first ≡ at → at_key key (first ∷ rest) at ≡ first ∷ at_key key rest at
  at_own at first rest same = elim (eqb_tells (key first) at) [
    | inl (is, same) ↦ at_by at first rest true is
    | inr (is, differ) ↦ absurd (differ same)
  ]

  at_other : (at : ℕ) (first : A) (rest : List A) → key first ≢ at → at_key key (first ∷ rest) at ≡ at_key key rest at
  at_other at first rest other = elim (eqb_tells (key first) at) [
    | inl (is, same) ↦ absurd (other same)
    | inr (is, differ) ↦ at_by at first rest false is
  ]

  none_at : (at : ℕ) (rest : List A) → All (λ (item : A). at < key item) rest → at_key key rest at ≡ []
  none_at at [] above = refl
  none_at at (first ∷ rest) above =
      let over : at < key first = All-head (λ (item : A). at < key item) first rest above in
      let other : key first ≢ at = omega (arith, over) in
      at_other at first rest other ∙ none_at at rest (All-tail (λ (item : A). at < key item) first rest above)

  -- ---- those of some keys

  same_keys : (start count : ℕ) (ones others : List A) → ((at : ℕ) → start ≤ at → at_key key ones at ≡ at_key key others at) → by_key key start count ones ≡ by_key key start count others
  same_keys start zero ones others same = refl
  same_keys start (suc count) ones others same =
      ap (λ here. here ++ by_key key (start + 1) count ones) (same start (omega arith))
      ∙ ap (λ later. at_key key others start ++ later) (same_keys (start + 1) count ones others (λ at from. same at (omega (arith, from))))

  -- the first of an ascending list comes first
  first_leads : (start count : ℕ) (first : A) (rest : List A) → start ≤ key first → key first < start + count → All (λ (item : A). key first ≤ key item) rest
      → by_key key start count (first ∷ rest) ≡ first ∷ by_key key start count rest
  first_leads start zero first rest from below rising = absurd (omega (arith, from, below))
  first_leads start (suc count) first rest from below rising = elim (eqb_tells (key first) start) [
    | inl (is, same) ↦
        ap (λ here. here ++ by_key key (start + 1) count (first ∷ rest)) (at_own start first rest same)
        ∙ ap (λ later. first ∷ (at_key key rest start ++ later))
        (same_keys (start + 1) count (first ∷ rest) rest (λ at after. let other : key first ≢ at = omega (arith, same, after) in at_other at first rest other))
    | inr (is, differ) ↦
        let over : start < key first = omega (arith, from, differ) in
        let none : at_key key rest start ≡ [] =
        none_at start rest (λ k d within. let risen = rising k d within in omega (arith, over, risen)) in
        ap (λ here. here ++ by_key key (start + 1) count (first ∷ rest)) (at_other start first rest differ ∙ none)
        ∙ first_leads (start + 1) count first rest (omega (arith, over)) (omega (arith, below)) rising
        ∙ ap (λ here. first ∷ (here ++ by_key key (start + 1) count rest)) (sym none)
  ]

  no_items : (start count : ℕ) → by_key key start count [] ≡ []
  no_items start zero = refl
  no_items start (suc count) = no_items (start + 1) count

  by_key_again : (count : ℕ) (found : List A) → IsNonDecreasingBy key found → All (λ (item : A). key item < count) found → by_key key 0 count found ≡ found
  by_key_again count [] rising below = no_items 0 count
  by_key_again count (first ∷ rest) rising below =
      let below_first : key first < count = All-head (λ (item : A). key item < count) first rest below in
      first_leads 0 count first rest (omega arith) (omega (arith, below_first)) (λ k d within. rising 0 (suc k) d (omega arith) (omega (arith, within)))
      ∙ ap (λ rest. first ∷ rest)
      (by_key_again count rest (λ i j d upto within. rising (suc i) (suc j) d (omega (arith, upto)) (omega (arith, within))) (All-tail (λ (item : A). key item < count) first rest below))

  -- ---- a stable sort keeps those of each key

  kept_at : (made : ℕ → A) → ((at : ℕ) → key (made at) ≡ at) → (ones others : List A) → IsStableByKey key nat_cmp ones others → (at : ℕ) → at_key key ones at ≡ at_key key others at
  kept_at made is ones others stable at =
      let same : (λ (item : A). not (is_lt (nat_cmp (key (made at)) (key item))) && not (is_lt (nat_cmp (key item) (key (made at))))) ≡ (λ (item : A). key item == at) =
      same_function (λ item. tie_is_key (key (made at)) (key item) ∙ ap (λ (at : ℕ). key item == at) (is at)) in
      sym (ap (λ test. filter test ones) same) ∙ sym (stable (made at)) ∙ ap (λ test. filter test others) same

  -- so it gives this list, where all keys are below the count
  pub sorted_by_key : (made : ℕ → A) → ((at : ℕ) → key (made at) ≡ at) → (count : ℕ) (items found : List A) → IsNonDecreasingBy key found → IsStableByKey key nat_cmp items found
      → All (λ (item : A). key item < count) found → found ≡ by_key key 0 count items
  sorted_by_key made is count items found rising stable below =
      sym (by_key_again count found rising below) ∙ same_keys 0 count found items (λ at from. sym (kept_at made is items found stable at))
