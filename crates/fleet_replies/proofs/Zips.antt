-- Lists beside each other.
use Rattle.std.proofs.Common.{ℕ, suc, ◌≡◌, ◌+◌, ◌<◌, ◌≤◌, List, [], ◌∷◌, ◌++◌, Result, Ok, Err, length, get_or, take, sym, ap, ◌∙◌, subst, arith}
use Rattle.std.specs.Global.{Global}
use Rattle.std.specs.Prelude.{IfOk, IfSome, Vec, slice_get}
use Rattle.std.specs.List.{AllZip, range_with_len}
use Rattle.std.proofs.lemmas.List.{take_all, take_more}

zip_push : {X V : Type 0} (is : X → V → Type 0) (xs : List X) (vs : List V) (x : X) (v : V) → AllZip is xs vs → is x v → AllZip is (xs ++ x ∷ []) (vs ++ v ∷ [])
zip_push is [] [] x v are own = (own, tt)
zip_push is (y ∷ xs) (w ∷ vs) x v are own = (are.0, zip_push is xs vs x v are.1 own)
zip_push is [] (w ∷ vs) x v are own = absurd are
zip_push is (y ∷ xs) [] x v are own = absurd are

-- What is of the first elements, and of the next one.
pub zip_next : {X V : Type 0} (is : X → V → Type 0) (vs more : List V) (xs : List X) (i : ℕ) (v : V) (x : X) →
    i < length xs → x ≡ get_or xs i x → more ≡ vs ++ v ∷ [] → is x v → AllZip is (take i xs) vs → AllZip is (take (i + 1) xs) more
zip_next {X} is vs more xs i v x there at next own are =
    subst (λ (those : List X). AllZip is those more) (ap (λ y. take i xs ++ y ∷ []) at ∙ sym (take_more xs i x there))
    (subst (AllZip is (take i xs ++ x ∷ [])) (sym next) (zip_push is (take i xs) vs x v are own))

-- Where none is left, it is of each.
pub zip_all : {X V : Type 0} (is : X → V → Type 0) (vs : List V) (xs : List X) (i : ℕ) → length xs ≤ i → AllZip is (take i xs) vs → AllZip is xs vs
zip_all {X} is vs xs i past are = subst (λ (those : List X). AllZip is those vs) (take_all i xs past) are

-- What is at the number of each element is of that element.
pub zip_numbered : {X V : Type 0} (is : X → V → Type 0) (at : ℕ → V → Type 0) (xs : List X) (vs : List V) (from : ℕ)
    → ((k : ℕ) (v : V) → at (from + k) v → IfSome (slice_get xs k) (λ x. is x v)) → AllZip at (range_with_len from (length xs)) vs → AllZip is xs vs
zip_numbered is at [] [] from of zip = tt
zip_numbered is at [] (v ∷ vs) from of zip = absurd zip
zip_numbered is at (x ∷ xs) [] from of zip = absurd zip
zip_numbered is at (x ∷ xs) (v ∷ vs) from of zip =
    let here : from ≡ from + 0 = omega arith in (
      of 0 v (subst (λ k. at k v) here zip.0),
      zip_numbered is at xs vs (from + 1) (λ k w own. let same : from + 1 + k ≡ from + suc k = omega arith in of (suc k) w (subst (λ n. at n w) same own)) zip.1,
    )

-- The same of what is there of as many numbers as there are elements.
pub all_numbered : {X V E : Type 0} (is : X → V → Type 0) (at : ℕ → V → Type 0) (xs : List X) (count : ℕ) (found : Result (Vec V Global) E)
    → count ≡ length xs → ((k : ℕ) (v : V) → at k v → IfSome (slice_get xs k) (λ x. is x v))
    → IfOk found (λ vs. AllZip at (range_with_len 0 count) vs.items) → IfOk found (λ vs. AllZip is xs vs.items)
all_numbered is at xs count (Ok vs) same of zip =
    zip_numbered is at xs vs.items 0 (λ k v own. let here : 0 + k ≡ k = omega arith in of k v (subst (λ n. at n v) here own)) (subst (λ n. AllZip at (range_with_len 0 n) vs.items) same zip)
all_numbered is at xs count (Err error) same of zip = tt
