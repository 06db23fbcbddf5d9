-- What digits parse to, within 32 bits.
use Rattle.std.proofs.Common.{◌≡◌, ◌∙◌, ℕ, ◌<◌, ◌^◌, List, [], ◌∷◌, length, Bool, true, false, cond, Result, Ok, Err, refl, sym, ap, ltb}
use Rattle.std.specs.Prelude.{◌&&◌}
use Rattle.std.specs.Char.{is_ascii_digit}
use Rattle.std.specs.List.{list_all}
use Rattle.std.specs.Result.{MatchResult}
use Rattle.std.specs.Str.{all_ascii_digits}
use Rattle.std.specs.Str.Parse.{ParsesUnsigned, digits_value}
use Rattle.std.proofs.lemmas.Bool.{and_parts, cond-true, false_from_ne_true, lt-ltb, ltb-true}
use Rattle.std.proofs.lemmas.Str.Parse.{IsNumeralModel, numerals_by_value, tells_all_ascii_digits, parse_digits}
use Rattle.step_words.specs.declared.mistake.Mistake.{Mistake}
use Rattle.step_words.specs.declared.mistake.Mistake.TheVariants.{NoNumber}
use Rattle.step_words.specs.Numbers.{are_digits, below_32_bits, number_in}

abbrev AreDigits : List ℕ → Type 0
AreDigits text = all_ascii_digits text ≡ true

own : IsNumeralModel AreDigits (digits_value 10)
own = numerals_by_value AreDigits tells_all_ascii_digits

all_digits : (text : List ℕ) → list_all is_ascii_digit text ≡ all_ascii_digits text
all_digits [] = refl
all_digits (c ∷ cs) = ap (λ (others : Bool). is_ascii_digit c && others) (all_digits cs)

digits_of : (text : List ℕ) → are_digits text ≡ true → AreDigits text
digits_of text are = sym (all_digits text) ∙ (and_parts (ltb 0 (length text)) (list_all is_ascii_digit text) are).1

some_of : (text : List ℕ) → are_digits text ≡ true → 0 < length text
some_of text are = ltb-true 0 (length text) (and_parts (ltb 0 (length text)) (list_all is_ascii_digit text) are).0

-- as the code has it: some byte is there, and all are digits
pub some_digits : (text : List ℕ) (all : Bool) → 0 < length text → all ≡ list_all is_ascii_digit text → all ≡ are_digits text
some_digits text all low is = is ∙ sym (ap (λ (some : Bool). some && list_all is_ascii_digit text) (lt-ltb 0 (length text) low))

abbrev below_by : ℕ → Bool → Result ℕ Mistake
below_by n below = cond below (Ok n) (Err NoNumber)

read_by : (text : List ℕ) (below : Bool) → are_digits text ≡ true → ltb (digits_value 10 text) (2 ^ 32) ≡ below → number_in text ≡ below_by (digits_value 10 text) below
read_by text below are is = cond-true (are_digits text) (below_32_bits (digits_value 10 text)) (Err NoNumber) are ∙ ap (below_by (digits_value 10 text)) is

ok_at : (n m : ℕ) → n ≡ m → below_by m true ≡ Ok n
ok_at n m is = ap (λ (k : ℕ). below_by k true) (sym is)

pub number_read : {E : Type 0} (text : List ℕ) (r : Result ℕ E) → are_digits text ≡ true → ParsesUnsigned 32 10 text r → MatchResult r (λ n. number_in text ≡ Ok n) (λ e. number_in text ≡ Err NoNumber)
number_read {E} text (Ok n) are h =
    let k : ((0 < length text) × (digits_value 10 text < 2 ^ 32)) × (n ≡ digits_value 10 text) = parse_digits own {E = E} 32 text (Ok n) h (digits_of text are) in
    read_by text true are (lt-ltb (digits_value 10 text) (2 ^ 32) k.0.1) ∙ ok_at n (digits_value 10 text) k.1
number_read {E} text (Err e) are h =
    let k : ((0 < length text) × (digits_value 10 text < 2 ^ 32)) → ⊥ = parse_digits own {E = E} 32 text (Err e) h (digits_of text are) in
    read_by text false are (false_from_ne_true (ltb (digits_value 10 text) (2 ^ 32)) (λ below. k (some_of text are, ltb-true (digits_value 10 text) (2 ^ 32) below)))
