-- The greatest of some ranks, and one above.
use Rattle.std.proofs.Common.{◌≡◌, ℕ, ◌+◌, ◌<◌, List, [], ◌∷◌, ◌++◌, length, take, max, get_or, ap, arith}
use Rattle.std.specs.Ordering.{ord_max, nat_cmp}
use Rattle.std.proofs.lemmas.Bool.Decides.{nat_tests}
use Rattle.std.proofs.lemmas.List.{take_more}
use Rattle.stage_graph.specs.Walk.{above_all}

-- the greater of two numbers, as the code has it
greater : (a b : ℕ) → ord_max nat_cmp a b ≡ max a b
greater a b = grind (arith, nat_tests)

pub above_append : (ranks : ℕ → ℕ) (xs ys : List ℕ) → above_all ranks (xs ++ ys) ≡ max (above_all ranks xs) (above_all ranks ys)
above_append ranks [] ys = omega arith
above_append ranks (x ∷ xs) ys = let rest : above_all ranks (xs ++ ys) ≡ max (above_all ranks xs) (above_all ranks ys) = above_append ranks xs ys in omega arith

-- one more of the feeds
pub above_more : (ranks : ℕ → ℕ) (feeds : List ℕ) (i rank told : ℕ) → i < length feeds → rank ≡ ranks (get_or feeds i 0) → told ≡ ord_max nat_cmp (above_all ranks (take i feeds)) (rank + 1)
    → told ≡ above_all ranks (take (i + 1) feeds)
above_more ranks feeds i rank told within is now =
    let more : above_all ranks (take (i + 1) feeds) ≡ above_all ranks (take i feeds ++ get_or feeds i 0 ∷ []) = ap (above_all ranks) (take_more feeds i 0 within) in
    omega (arith, now, more, greater (above_all ranks (take i feeds)) (rank + 1), above_append ranks (take i feeds) (get_or feeds i 0 ∷ []), is)

-- of the sources and of the inner stages
pub above_of_both : (ranks : ℕ → ℕ) (xs ys : List ℕ) (a b told : ℕ) → a ≡ above_all ranks xs → b ≡ above_all ranks ys → told ≡ max a b → told ≡ above_all ranks (xs ++ ys)
above_of_both ranks xs ys a b told first second is = omega (arith, first, second, is, above_append ranks xs ys)
