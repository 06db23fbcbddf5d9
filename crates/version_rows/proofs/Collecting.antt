-- A list that grows by what is found.
use Rattle.std.proofs.Common.{◌≡◌, ℕ, ◌+◌, ◌-◌, ◌<◌, suc, List, [], ◌∷◌, ◌++◌, arith, sym, ap, ◌∙◌, append_assoc, append-nil, length, drop, get_or, drop-cons, add-one, Option, None, Some}
use Rattle.std.specs.List.{cons_option, filter_map, range_with_len}
use Rattle.std.specs.Option.{option_to_list}

found_more : {X : Type 0} (found : List X) (one : Option X) (left : List X) → (found ++ option_to_list one) ++ left ≡ found ++ cons_option one left
found_more found None left = ap (λ list. list ++ left) (append-nil found)
found_more found (Some x) left = append_assoc found (x ∷ []) left

-- what is found at a number, and at those after it
pub next_number : {X : Type 0} (find : ℕ → Option X) (number end : ℕ) (one : Option X) → number < end → one ≡ find number
    → filter_map find (range_with_len number (end - number)) ≡ cons_option one (filter_map find (range_with_len (number + 1) (end - (number + 1))))
next_number find number end one before_end is =
    let one_more : end - number ≡ suc (end - (number + 1)) = omega arith in
    ap (λ n. filter_map find (range_with_len number n)) one_more
    ∙ ap (λ found. cons_option found (filter_map find (range_with_len (number + 1) (end - (number + 1))))) (sym is)

-- what is found at an item, and at those after it
pub next_item : {X Y : Type 0} (find : X → Option Y) (items : List X) (i : ℕ) (d : X) (one : Option Y) → i < length items → one ≡ find (get_or items i d)
    → filter_map find (drop i items) ≡ cons_option one (filter_map find (drop (i + 1) items))
next_item find items i d one within is =
    ap (filter_map find) (drop-cons items i d within ∙ ap (λ n. get_or items i d ∷ drop n items) (sym (add-one i)))
    ∙ ap (λ found. cons_option found (filter_map find (drop (i + 1) items))) (sym is)

-- one more was looked at
pub collects : {X : Type 0} (found new rest left whole : List X) (one : Option X) → found ++ left ≡ whole → left ≡ cons_option one rest → new ≡ found ++ option_to_list one → new ++ rest ≡ whole
collects found new rest left whole one so_far next grown =
    ap (λ list. list ++ rest) grown ∙ found_more found one rest ∙ ap (λ list. found ++ list) (sym next) ∙ so_far
