-- A text that grows by pieces.
use Rattle.std.proofs.Common.{◌≡◌, ℕ, ◌+◌, ◌-◌, ◌<◌, suc, List, ◌∷◌, ◌++◌, arith, sym, ap, ◌∙◌, append_assoc, length, drop, get_or, subst, drop-cons, add-one, Result, Ok, Err, OnOk}
use Rattle.std.specs.Prelude.{is_ok, if◌then◌else◌}
use Rattle.std.specs.List.{flat_map, range_with_len}

-- the piece of the next item, and those of the items after it
pub next_of : {X : Type 0} (piece : X → List ℕ) (items : List X) (i : ℕ) (d : X) → i < length items
    → flat_map piece (drop i items) ≡ piece (get_or items i d) ++ flat_map piece (drop (i + 1) items)
next_of piece items i d within =
    ap (flat_map piece) (drop-cons items i d within ∙ ap (λ n. get_or items i d ∷ drop n items) (sym (add-one i)))

-- one piece more is written
pub goes_on : (line new rest piece more whole : List ℕ) → line ++ rest ≡ whole → rest ≡ piece ++ more → new ≡ line ++ piece → new ++ more ≡ whole
goes_on line new rest piece more whole so_far next written =
    ap (λ l. l ++ more) written ∙ append_assoc line piece more ∙ ap (λ l. line ++ l) (sym next) ∙ so_far

-- the text grows by one piece, and by the last one
pub after : (old before new text piece : List ℕ) → before ≡ old ++ text → new ≡ before ++ piece → new ≡ old ++ (text ++ piece)
after old before new text piece so_far written = written ∙ ap (λ l. l ++ piece) so_far ∙ append_assoc old text piece

pub at_last : {T E : Type 0} (result : Result T E) (old before new text piece : List ℕ) → before ≡ old ++ text → OnOk result (new ≡ before ++ piece) → OnOk result (new ≡ old ++ (text ++ piece))
at_last (Ok done) old before new text piece so_far written = after old before new text piece so_far written
at_last (Err fault) old before new text piece so_far written = tt

-- the piece of the next number, and those of the numbers after it
pub next_number : (piece : ℕ → List ℕ) (number end : ℕ) → number < end
    → flat_map piece (range_with_len number (end - number)) ≡ piece number ++ flat_map piece (range_with_len (number + 1) (end - (number + 1)))
next_number piece number end before_end =
    let one_more : end - number ≡ suc (end - (number + 1)) = omega arith in ap (λ n. flat_map piece (range_with_len number n)) one_more

-- where a part of what is written is known under another form
pub as_told : {X T E : Type 0} (result : Result T E) (piece : X → List ℕ) (before new : List ℕ) (x y : X) → x ≡ y → OnOk result (new ≡ before ++ piece x) → OnOk result (new ≡ before ++ piece y)
as_told result piece before new x y same written = subst (λ z. OnOk result (new ≡ before ++ piece z)) same written

-- what `push_str` says of its text where it succeeds
pub last_text : {T E : Type 0} (result : Result T E) (before new piece : List ℕ) → new ≡ (if is_ok result then before ++ piece else before) → OnOk result (new ≡ before ++ piece)
last_text (Ok done) before new piece written = written
last_text (Err fault) before new piece written = tt
