-- What digits spell, and a `%` at the end of a word.
use Rattle.std.proofs.Common.{◌≡◌, ◌≢◌, ℕ, ◌+◌, ◌-◌, ◌<◌, ◌≤◌, ◌^◌, List, [], ◌∷◌, ◌++◌, length, get_or, take, Bool, true, ltb, leb, eqb, Option, Some, None, Result, Ok, Err, refl, sym, ap, ◌∙◌, arith, ⊎_elim}
use Rattle.std.specs.Prelude.{◌&&◌}
use Rattle.std.specs.Char.{is_ascii_digit}
use Rattle.std.specs.List.{list_all}
use Rattle.std.specs.Option.{option_and_then}
use Rattle.std.specs.Result.{MatchResult}
use Rattle.std.specs.Str.{all_ascii_digits}
use Rattle.std.specs.Str.Parse.{ParsesUnsigned, digits_value}
use Rattle.std.proofs.lemmas.Bool.{and_from, and_parts, cases_lt, cond-false, cond-true, eq-eqb, eqb-true, false_from_ne_true, lt-leb, lt-ltb, ltb-true}
use Rattle.std.proofs.lemmas.List.{length_push, get_or_push, take_all, take_at, take_more}
use Rattle.std.proofs.lemmas.Str.Parse.{IsNumeralModel, numerals_by_value, tells_all_ascii_digits, parse_digits}
use Rattle.command_line.specs.Percents.{are_digits, before_percent, hundredths_of, percent_in, within_most}

abbrev AreDigits : List ℕ → Type 0
AreDigits text = all_ascii_digits text ≡ true

own : IsNumeralModel AreDigits (digits_value 10)
own = numerals_by_value AreDigits tells_all_ascii_digits

all_digits : (text : List ℕ) → list_all is_ascii_digit text ≡ all_ascii_digits text
all_digits [] = refl
all_digits (c ∷ cs) = ap (λ (others : Bool). is_ascii_digit c && others) (all_digits cs)

digits_of : (text : List ℕ) → are_digits text ≡ true → AreDigits text
digits_of text are = sym (all_digits text) ∙ (and_parts (ltb 0 (length text)) (list_all is_ascii_digit text) are).1

some_of : (text : List ℕ) → are_digits text ≡ true → 0 < length text
some_of text are = ltb-true 0 (length text) (and_parts (ltb 0 (length text)) (list_all is_ascii_digit text) are).0

-- as the code has it: some byte is there, and all are digits
pub some_digits : (text : List ℕ) (all : Bool) → 0 < length text → all ≡ list_all is_ascii_digit text → all ≡ are_digits text
some_digits text all low is = is ∙ sym (ap (λ (some : Bool). some && list_all is_ascii_digit text) (lt-ltb 0 (length text) low))

by_value : (text : List ℕ) → are_digits text ≡ true → hundredths_of text ≡ within_most (digits_value 10 text)
by_value text are = cond-true (are_digits text) (within_most (digits_value 10 text)) None are

too_many : (n : ℕ) → 2 ^ 8 ≤ n → within_most n ≡ None
too_many n past = let more : 99 < n = omega (arith, past) in cond-false (leb n 99) (Some n) None (lt-leb n 99 more)

-- what is read of digits, and what is not
pub hundredths_read : {E : Type 0} (text : List ℕ) (r : Result ℕ E) → are_digits text ≡ true → ParsesUnsigned 8 10 text r → MatchResult r (λ n. hundredths_of text ≡ within_most n) (λ e. hundredths_of text ≡ None)
hundredths_read {E} text (Ok n) are h =
    let k : ((0 < length text) × (digits_value 10 text < 2 ^ 8)) × (n ≡ digits_value 10 text) = parse_digits own {E = E} 8 text (Ok n) h (digits_of text are) in
    by_value text are ∙ ap within_most (sym k.1)
hundredths_read {E} text (Err e) are h =
    let k : ((0 < length text) × (digits_value 10 text < 2 ^ 8)) → ⊥ = parse_digits own {E = E} 8 text (Err e) h (digits_of text are) in
    by_value text are
    ∙ ⊎_elim
    (λ (below : digits_value 10 text < 2 ^ 8). absurd (k (some_of text are, below)))
    (λ (past : 2 ^ 8 ≤ digits_value 10 text). too_many (digits_value 10 text) past)
    (cases_lt (digits_value 10 text) (2 ^ 8))

-- ---- a `%` at the end

percent_off : (text front : List ℕ) → text ≡ front ++ 37 ∷ [] → before_percent text ≡ Some front
percent_off text front e =
    let n : length text ≡ length front + 1 = ap length e ∙ length_push front 37 in
    let less : length front ≡ length text - 1 = omega arith in
    let last : get_or text (length text - 1) 0 ≡ 37 = ap (λ (t : List ℕ). get_or t (length text - 1) 0) e ∙ get_or_push front 37 0 (length text - 1) less in
    let before : take (length text - 1) text ≡ front = ap (take (length text - 1)) e ∙ take_at front (37 ∷ []) (length text - 1) less in
    let some : ltb 0 (length text) ≡ true = lt-ltb 0 (length text) (omega arith) in
    let both : (ltb 0 (length text) && eqb (get_or text (length text - 1) 0) 37) ≡ true = and_from (ltb 0 (length text)) (eqb (get_or text (length text - 1) 0) 37) some (eq-eqb (get_or text (length text - 1) 0) 37 last) in
    cond-true (ltb 0 (length text) && eqb (get_or text (length text - 1) 0) 37) (Some (take (length text - 1) text)) None both ∙ ap Some before

no_percent : (text : List ℕ) → ((front : List ℕ) → text ≢ front ++ 37 ∷ []) → before_percent text ≡ None
no_percent text none =
    cond-false _ _ _ (false_from_ne_true (ltb 0 (length text) && eqb (get_or text (length text - 1) 0) 37) (λ both.
    let p = and_parts (ltb 0 (length text)) (eqb (get_or text (length text - 1) 0) 37) both in
    let low : 0 < length text = ltb-true 0 (length text) p.0 in
    let last : get_or text (length text - 1) 0 ≡ 37 = eqb-true _ _ p.1 in
    none (take (length text - 1) text)
    (sym (take_all (length text - 1 + 1) text (omega arith)) ∙ take_more text (length text - 1) 0 (omega arith) ∙ ap (λ b. take (length text - 1) text ++ b ∷ []) last)))

pub with_percent : (word digits : List ℕ) → word ≡ digits ++ 37 ∷ [] → percent_in word ≡ hundredths_of digits
with_percent word digits e = ap (λ (found : Option (List ℕ)). option_and_then hundredths_of found) (percent_off word digits e)

pub without_percent : (word : List ℕ) → ((front : List ℕ) → word ≢ front ++ 37 ∷ []) → percent_in word ≡ None
without_percent word none = ap (λ (found : Option (List ℕ)). option_and_then hundredths_of found) (no_percent word none)
