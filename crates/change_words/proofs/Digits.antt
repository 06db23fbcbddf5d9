-- What digits parse to, with a minus or without one.
use mir.Val.{of_z, to_z}
use Rattle.std.proofs.Common.{◌≡◌, ◌≢◌, ℕ, ◌<◌, ◌≤◌, ◌^◌, List, [], ◌∷◌, length, Bool, true, false, cond, Result, Ok, Err, pos, neg_ℤ, ℤ, refl, sym, ap, subst, FitsSigned, ◌∙◌, ltb, w64}
use Rattle.std.specs.Prelude.{◌==◌, ◌&&◌}
use Rattle.std.specs.Char.{is_ascii_digit}
use Rattle.std.specs.List.{list_all}
use Rattle.std.specs.Result.{MatchResult}
use Rattle.std.specs.Str.{all_ascii_digits}
use Rattle.std.specs.Str.Parse.{ParsesUnsigned, ParsesSigned, digits_value}
use Rattle.std.proofs.lemmas.Bool.{and_parts, cond-false, cond-true, eq-eqb, eqb-true, false_from_ne_true, true_from_ne_false, le-ltb, lt-ltb, ltb-false, ltb-true}
use Rattle.std.proofs.lemmas.Int.{to_z-of_z}
use Rattle.std.proofs.lemmas.Str.Parse.{IsNumeralModel, numerals_by_value, tells_all_ascii_digits, parse_digits, parse_signed_digits, parse_signed_minus}
use Rattle.change_words.specs.declared.fault.Wrong.{Wrong}
use Rattle.change_words.specs.declared.fault.Wrong.TheVariants.{NoNumber, TooLarge}
use Rattle.change_words.specs.Numbers.{are_digits, below_64_bits, count_of, negative, positive, signed_of, without_minus}

abbrev AreDigits : List ℕ → Type 0
AreDigits text = all_ascii_digits text ≡ true

is_45 : (c : ℕ) → (c == 45) ≡ true → c ≡ 45
is_45 c h = eqb-true c 45 h

own : IsNumeralModel AreDigits (digits_value 10)
own = numerals_by_value AreDigits tells_all_ascii_digits

all_digits : (text : List ℕ) → list_all is_ascii_digit text ≡ all_ascii_digits text
all_digits [] = refl
all_digits (c ∷ cs) = ap (λ (others : Bool). is_ascii_digit c && others) (all_digits cs)

digits_of : (text : List ℕ) → are_digits text ≡ true → AreDigits text
digits_of text are = sym (all_digits text) ∙ (and_parts (ltb 0 (length text)) (list_all is_ascii_digit text) are).1

some_of : (text : List ℕ) → are_digits text ≡ true → 0 < length text
some_of text are = ltb-true 0 (length text) (and_parts (ltb 0 (length text)) (list_all is_ascii_digit text) are).0

-- as the code has it: some byte is there, and all are digits
pub some_digits : (text : List ℕ) (all : Bool) → 0 < length text → all ≡ list_all is_ascii_digit text → all ≡ are_digits text
some_digits text all low is = is ∙ sym (ap (λ (some : Bool). some && list_all is_ascii_digit text) (lt-ltb 0 (length text) low))

abbrev below_by : ℕ → Bool → Result ℕ Wrong
below_by n below = cond below (Ok n) (Err TooLarge)

read_by : (text : List ℕ) (below : Bool) → are_digits text ≡ true → ltb (digits_value 10 text) (2 ^ 64) ≡ below → count_of text ≡ below_by (digits_value 10 text) below
read_by text below are is = cond-true (are_digits text) (below_64_bits (digits_value 10 text)) (Err NoNumber) are ∙ ap (below_by (digits_value 10 text)) is

ok_at : (n m : ℕ) → n ≡ m → below_by m true ≡ Ok n
ok_at n m is = ap (λ (k : ℕ). below_by k true) (sym is)

pub count_read : {E : Type 0} (text : List ℕ) (r : Result ℕ E) → are_digits text ≡ true → ParsesUnsigned 64 10 text r → MatchResult r (λ n. count_of text ≡ Ok n) (λ e. count_of text ≡ Err TooLarge)
count_read {E} text (Ok n) are h =
    let k : ((0 < length text) × (digits_value 10 text < 2 ^ 64)) × (n ≡ digits_value 10 text) = parse_digits own {E = E} 64 text (Ok n) h (digits_of text are) in
    read_by text true are (lt-ltb (digits_value 10 text) (2 ^ 64) k.0.1) ∙ ok_at n (digits_value 10 text) k.1
count_read {E} text (Err e) are h =
    let k : ((0 < length text) × (digits_value 10 text < 2 ^ 64)) → ⊥ = parse_digits own {E = E} 64 text (Err e) h (digits_of text are) in
    read_by text false are (false_from_ne_true (ltb (digits_value 10 text) (2 ^ 64)) (λ below. k (some_of text are, ltb-true (digits_value 10 text) (2 ^ 64) below)))

-- without a minus
abbrev signed_ok : ℤ → Result ℤ Wrong
signed_ok n = Ok n

abbrev plain_below : ℕ → Bool → Result ℤ Wrong
plain_below n below = cond below (Ok (pos n)) (Err TooLarge)

plain_by : (x : ℕ) (xs : List ℕ) (below : Bool) → (x == 45) ≡ false → are_digits (x ∷ xs) ≡ true → ltb (digits_value 10 (x ∷ xs)) (2 ^ 63) ≡ below → signed_of (x ∷ xs) ≡ plain_below (digits_value 10 (x ∷ xs)) below
plain_by x xs below plain are is =
    cond-false (x == 45) (cond (are_digits xs) (negative (digits_value 10 xs)) (Err NoNumber)) (cond (are_digits (x ∷ xs)) (positive (digits_value 10 (x ∷ xs))) (Err NoNumber)) plain
    ∙ cond-true (are_digits (x ∷ xs)) (positive (digits_value 10 (x ∷ xs))) (Err NoNumber) are
    ∙ ap (plain_below (digits_value 10 (x ∷ xs))) is

plain_at : (n : ℤ) (m : ℕ) → n ≡ pos m → plain_below m true ≡ Ok n
plain_at n m is = ap signed_ok (sym is)

signed_plain : {E : Type 0} (x : ℕ) (xs : List ℕ) (r : Result ℤ E) → (x == 45) ≡ false → are_digits (x ∷ xs) ≡ true → ParsesSigned w64 10 (x ∷ xs) r → MatchResult r (λ n. signed_of (x ∷ xs) ≡ Ok n) (λ e. signed_of (x ∷ xs) ≡ Err TooLarge)
signed_plain {E} x xs (Ok n) plain are h =
    let k : ((0 < length (x ∷ xs)) × (digits_value 10 (x ∷ xs) < 2 ^ 63)) × (n ≡ pos (digits_value 10 (x ∷ xs))) = parse_signed_digits own {E = E} w64 (x ∷ xs) (Ok n) h (digits_of (x ∷ xs) are) in
    plain_by x xs true plain are (lt-ltb (digits_value 10 (x ∷ xs)) (2 ^ 63) k.0.1) ∙ plain_at n (digits_value 10 (x ∷ xs)) k.1
signed_plain {E} x xs (Err e) plain are h =
    let k : ((0 < length (x ∷ xs)) × (digits_value 10 (x ∷ xs) < 2 ^ 63)) → ⊥ = parse_signed_digits own {E = E} w64 (x ∷ xs) (Err e) h (digits_of (x ∷ xs) are) in
    plain_by x xs false plain are (false_from_ne_true (ltb (digits_value 10 (x ∷ xs)) (2 ^ 63)) (λ below. k (some_of (x ∷ xs) are, ltb-true (digits_value 10 (x ∷ xs)) (2 ^ 63) below)))

-- with one
abbrev minus_above : ℕ → Bool → Result ℤ Wrong
minus_above n above = cond above (Err TooLarge) (Ok (neg_ℤ (pos n)))

minus_by : (x : ℕ) (xs : List ℕ) (above : Bool) → (x == 45) ≡ true → are_digits xs ≡ true → ltb (2 ^ 63) (digits_value 10 xs) ≡ above → signed_of (x ∷ xs) ≡ minus_above (digits_value 10 xs) above
minus_by x xs above minus are is =
    cond-true (x == 45) (cond (are_digits xs) (negative (digits_value 10 xs)) (Err NoNumber)) (cond (are_digits (x ∷ xs)) (positive (digits_value 10 (x ∷ xs))) (Err NoNumber)) minus
    ∙ cond-true (are_digits xs) (negative (digits_value 10 xs)) (Err NoNumber) are
    ∙ ap (minus_above (digits_value 10 xs)) is

minus_at : (n : ℤ) (m : ℕ) → n ≡ neg_ℤ (pos m) → minus_above m false ≡ Ok n
minus_at n m is = ap signed_ok (sym is)

signed_minus : {E : Type 0} (x : ℕ) (xs : List ℕ) (r : Result ℤ E) → x ≡ 45 → are_digits xs ≡ true → ParsesSigned w64 10 (x ∷ xs) r → MatchResult r (λ n. signed_of (x ∷ xs) ≡ Ok n) (λ e. signed_of (x ∷ xs) ≡ Err TooLarge)
signed_minus {E} x xs (Ok n) minus are h =
    let k : (AreDigits xs × (0 < length xs) × (digits_value 10 xs ≤ 2 ^ 63)) × (n ≡ neg_ℤ (pos (digits_value 10 xs))) = parse_signed_minus own {E = E} w64 (x ∷ xs) (Ok n) h minus in
    minus_by x xs false (eq-eqb x 45 minus) are (le-ltb (2 ^ 63) (digits_value 10 xs) k.0.2) ∙ minus_at n (digits_value 10 xs) k.1
signed_minus {E} x xs (Err e) minus are h =
    let k : (AreDigits xs × (0 < length xs) × (digits_value 10 xs ≤ 2 ^ 63)) → ⊥ = parse_signed_minus own {E = E} w64 (x ∷ xs) (Err e) h minus in
    minus_by x xs true (eq-eqb x 45 minus) are (true_from_ne_false (ltb (2 ^ 63) (digits_value 10 xs)) (λ within. k (digits_of xs are, some_of xs are, ltb-false (2 ^ 63) (digits_value 10 xs) within)))

signed_at : {E : Type 0} (x : ℕ) (xs : List ℕ) (r : Result ℤ E) (b : Bool) → (x == 45) ≡ b → are_digits (cond b xs (x ∷ xs)) ≡ true → ParsesSigned w64 10 (x ∷ xs) r → MatchResult r (λ n. signed_of (x ∷ xs) ≡ Ok n) (λ e. signed_of (x ∷ xs) ≡ Err TooLarge)
signed_at x xs r true minus are h = signed_minus x xs r (is_45 x minus) are h
signed_at x xs r false plain are h = signed_plain x xs r plain are h

pub signed_read : {E : Type 0} (text : List ℕ) (r : Result ℤ E) → are_digits (without_minus text) ≡ true → ParsesSigned w64 10 text r → MatchResult r (λ n. signed_of text ≡ Ok n) (λ e. signed_of text ≡ Err TooLarge)
signed_read [] r are h = absurd (cc)
signed_read (x ∷ xs) r are h = signed_at x xs r (x == 45) refl are h

-- a number that was read fits
pub signed_back : (E : Type 0) (text : List ℕ) (n : ℤ) → ParsesSigned {E = E} w64 10 text (Ok n) → signed_of text ≡ Ok n → Ok (to_z w64 (of_z w64 n)) ≡ signed_of text
signed_back E text n h is =
    let fits : FitsSigned w64 n = subst (FitsSigned w64) (sym h.1) h.0.1 in
    ap signed_ok (to_z-of_z w64 n fits) ∙ sym is

unread_at : (x : ℕ) (xs : List ℕ) (b : Bool) → (x == 45) ≡ b → are_digits (cond b xs (x ∷ xs)) ≡ false → signed_of (x ∷ xs) ≡ Err NoNumber
unread_at x xs true minus none =
    cond-true (x == 45) (cond (are_digits xs) (negative (digits_value 10 xs)) (Err NoNumber)) (cond (are_digits (x ∷ xs)) (positive (digits_value 10 (x ∷ xs))) (Err NoNumber)) minus
    ∙ cond-false (are_digits xs) (negative (digits_value 10 xs)) (Err NoNumber) none
unread_at x xs false plain none =
    cond-false (x == 45) (cond (are_digits xs) (negative (digits_value 10 xs)) (Err NoNumber)) (cond (are_digits (x ∷ xs)) (positive (digits_value 10 (x ∷ xs))) (Err NoNumber)) plain
    ∙ cond-false (are_digits (x ∷ xs)) (positive (digits_value 10 (x ∷ xs))) (Err NoNumber) none

pub signed_unread : (text : List ℕ) → are_digits (without_minus text) ≡ false → signed_of text ≡ Err NoNumber
signed_unread [] none = refl
signed_unread (x ∷ xs) none = unread_at x xs (x == 45) refl none

-- what is left behind a minus
pub minus_off : (text digits : List ℕ) → text ≡ 45 ∷ digits → digits ≡ without_minus text
minus_off text digits e = sym (ap without_minus e)

pub no_minus : (text : List ℕ) → ((digits : List ℕ) → text ≢ 45 ∷ digits) → text ≡ without_minus text
no_minus [] unsigned = refl
no_minus (x ∷ xs) unsigned = ap (λ b. cond b xs (x ∷ xs)) (sym (false_from_ne_true _ (λ e. unsigned xs (ap (λ c. c ∷ xs) (is_45 x e)))))
