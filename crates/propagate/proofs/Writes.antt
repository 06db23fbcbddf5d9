-- What it is to write other items at many places: what is written first.
use Rattle.std.proofs.Common.{◌≡◌, ℕ, suc, zero, ◌<◌, ◌≤◌, ◌+◌, List, [], ◌∷◌, length, set, drop, get_or, drop-cons, Option, Some, None, refl, sym, ap, ◌∙◌, add-one}
use Rattle.std.proofs.lemmas.List.{drop_all}
use Rattle.propagate.specs.Written.{written}

-- the rest of a list from an item that was read
drop_read : {A : Type 0} (xs : List A) (at : ℕ) (x d : A) → at < length xs → x ≡ get_or xs at d → drop at xs ≡ x ∷ drop (at + 1) xs
drop_read xs at x d within read = rw add-one (drop-cons xs at d within ∙ ap (λ y. y ∷ drop (suc at) xs) (sym read))

drop_set_suc : {A : Type 0} (xs : List A) (at : ℕ) (x : A) → drop (suc at) (set xs at x) ≡ drop (suc at) xs
drop_set_suc [] at x = refl
drop_set_suc (y ∷ ys) zero x = refl
drop_set_suc (y ∷ ys) (suc at) x = drop_set_suc ys at x

-- what is past a place stays so when the place is written
pub drop_set : {A : Type 0} (xs : List A) (at : ℕ) (x : A) → drop (at + 1) (set xs at x) ≡ drop (at + 1) xs
drop_set xs at x = rw add-one (drop_set_suc xs at x)

module _ {A : Type 0} where
  -- the first of the places left has no other item
  pub written_none : (xs : List A) (places : List ℕ) (others : List (Option A)) (at : ℕ) (d : Option A)
      → at < length places → at < length others → None ≡ get_or others at d
      → written xs (drop (at + 1) places) (drop (at + 1) others) ≡ written xs (drop at places) (drop at others)
  written_none xs places others at d within each other = rw (drop_read places at _ 0 within refl, drop_read others at None d each other) refl

  -- the first of the places left has this other item
  pub written_some : (xs : List A) (places : List ℕ) (others : List (Option A)) (at : ℕ) (x : A) (d : Option A)
      → at < length places → at < length others → Some x ≡ get_or others at d
      → written (set xs (get_or places at 0) x) (drop (at + 1) places) (drop (at + 1) others) ≡ written xs (drop at places) (drop at others)
  written_some xs places others at x d within each other = rw (drop_read places at _ 0 within refl, drop_read others at (Some x) d each other) refl

  -- no place is left
  pub written_end : (xs : List A) (places : List ℕ) (others : List (Option A)) (at : ℕ) → length places ≤ at
      → written xs (drop at places) (drop at others) ≡ xs
  written_end xs places others at end = rw (drop_all at places end) refl
