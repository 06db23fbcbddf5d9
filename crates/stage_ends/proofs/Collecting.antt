-- A list that grows by what is told of one thing after the other.
use Rattle.std.proofs.Common.{◌≡◌, ℕ, ◌+◌, ◌-◌, ◌<◌, ◌≤◌, suc, List, ◌++◌, arith, sym, ap, ◌∙◌, append_assoc, append-nil}
use Rattle.std.specs.List.{flat_map, range_with_len}

-- what is told at a number, and at those after it
pub next_number : {X : Type 0} (told : ℕ → List X) (number end : ℕ) → number < end
    → flat_map told (range_with_len number (end - number)) ≡ told number ++ flat_map told (range_with_len (number + 1) (end - (number + 1)))
next_number told number end before_end =
    let one_more : end - number ≡ suc (end - (number + 1)) = omega arith in
    ap (λ n. flat_map told (range_with_len number n)) one_more

-- more was told
pub collects : {X : Type 0} (found new more rest left whole : List X) → found ++ left ≡ whole → left ≡ more ++ rest → new ≡ found ++ more → new ++ rest ≡ whole
collects found new more rest left whole so_far next grown =
    ap (λ list. list ++ rest) grown ∙ append_assoc found more rest ∙ ap (λ list. found ++ list) (sym next) ∙ so_far

-- nothing is left
pub all_told : {X : Type 0} (told : ℕ → List X) (found whole : List X) (number end : ℕ) → found ++ flat_map told (range_with_len number (end - number)) ≡ whole → end ≤ number → found ≡ whole
all_told told found whole number end so_far past =
    let none : 0 ≡ end - number = omega arith in
    sym (append-nil found) ∙ ap (λ n. found ++ flat_map told (range_with_len number n)) none ∙ so_far
