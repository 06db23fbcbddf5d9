-- A list that grows by what is told of one place after the other.
use Rattle.std.proofs.Common.{◌≡◌, ℕ, ◌+◌, ◌-◌, ◌<◌, ◌≤◌, suc, List, [], ◌∷◌, ◌++◌, arith, sym, ap, ◌∙◌, append_assoc, append-nil, Option, None, Some}
use Rattle.std.specs.List.{cons_option, filter_map, range_with_len}
use Rattle.std.specs.Option.{option_to_list}

told_more : {X : Type 0} (found : List X) (one : Option X) (left : List X) → (found ++ option_to_list one) ++ left ≡ found ++ cons_option one left
told_more found None left = ap (λ list. list ++ left) (append-nil found)
told_more found (Some x) left = append_assoc found (x ∷ []) left

-- what is told of a place, and of those after it
pub next_place : {X : Type 0} (told : ℕ → Option X) (place end : ℕ) (one : Option X) → place < end → one ≡ told place
    → filter_map told (range_with_len place (end - place)) ≡ cons_option one (filter_map told (range_with_len (place + 1) (end - (place + 1))))
next_place told place end one before_end is =
    let one_more : end - place ≡ suc (end - (place + 1)) = omega arith in
    ap (λ n. filter_map told (range_with_len place n)) one_more
    ∙ ap (λ found. cons_option found (filter_map told (range_with_len (place + 1) (end - (place + 1))))) (sym is)

-- one more was looked at
pub collects : {X : Type 0} (found new rest left whole : List X) (one : Option X) → found ++ left ≡ whole → left ≡ cons_option one rest → new ≡ found ++ option_to_list one → new ++ rest ≡ whole
collects found new rest left whole one so_far next grown =
    ap (λ list. list ++ rest) grown ∙ told_more found one rest ∙ ap (λ list. found ++ list) (sym next) ∙ so_far

-- nothing is left
pub all_told : {X : Type 0} (told : ℕ → Option X) (found whole : List X) (place end : ℕ) → found ++ filter_map told (range_with_len place (end - place)) ≡ whole → end ≤ place → found ≡ whole
all_told told found whole place end so_far past =
    let none : 0 ≡ end - place = omega arith in
    sym (append-nil found) ∙ ap (λ n. found ++ filter_map told (range_with_len place n)) none ∙ so_far
