-- Lines that are read piece by piece.
use Rattle.std.proofs.Common.{◌≡◌, ℕ, ◌+◌, ◌-◌, ◌<◌, ◌≤◌, List, [], ◌∷◌, ◌++◌, length, take, drop, sym, ap, ◌∙◌, arith, length-append, length-drop}
use Rattle.std.specs.List.{slice_range}
use Rattle.std.proofs.lemmas.List.{drop-drop, drop-take, length-take-le}
use Rattle.std.proofs.Math.Seq.{drop-append-add}

pub length-slice_range : (xs : List ℕ) (i j : ℕ) → i ≤ j → j ≤ length xs → length (slice_range xs i j) ≡ j - i
length-slice_range xs i j ascending within = length-take-le (j - i) (drop i xs) (let left = length-drop i xs in omega (arith, left, ascending, within))

-- the rest of a piece after its first line end
pub slice_range-past : (xs : List ℕ) (i j : ℕ) (line after : List ℕ) → i ≤ j → j ≤ length xs → slice_range xs i j ≡ line ++ 10 ∷ after
    → (slice_range xs (i + (length line + 1)) j ≡ after) × (i + (length line + 1) ≤ j) × (length after < length (slice_range xs i j))
slice_range-past xs i j line after ascending within parts =
    let whole = length-slice_range xs i j ascending within in
    let parted = length-append line (10 ∷ after) in
    let sizes : j - i ≡ (length line + 1) + length after = let cut = ap length parts in omega (arith, whole, parted, cut) in
    let past : i + (length line + 1) ≤ j = omega (arith, sizes, ascending) in (
      ap (λ n. take n (drop (i + (length line + 1)) xs)) (let m : j - (i + (length line + 1)) ≡ length after = omega (arith, sizes, past) in m)
          ∙ ap (take (length after)) (sym (drop-drop (length line + 1) i xs))
          ∙ sym (drop-take (length line + 1) (length after) (drop i xs))
          ∙ ap (λ n. drop (length line + 1) (take n (drop i xs))) (sym sizes)
          ∙ ap (drop (length line + 1)) parts
          ∙ drop-append-add line (10 ∷ after) 1,
      past,
      (omega (arith, whole, sizes)),
    )

pub slice_range-none : (xs : List ℕ) (i j : ℕ) → i ≡ j → slice_range xs i j ≡ []
slice_range-none xs i j same = ap (λ n. take n (drop i xs)) (let none : j - i ≡ 0 = omega (arith, same) in none)
