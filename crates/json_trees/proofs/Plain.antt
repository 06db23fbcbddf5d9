-- The number that digits alone write.
use Rattle.std.proofs.Common.{◌≡◌, ◌==◌, ℕ, ◌+◌, ◌-◌, ◌*◌, ◌^◌, ◌<◌, ◌≤◌, List, [], ◌∷◌, length, false, Some, Result, Ok, Err, get_or, take, refl, sym, ap, ◌∙◌, subst, append-nil, take_all, length-take, ap₂, arith}
use Rattle.std.proofs.Math.Nat.{pow-le-pow_right}
use Rattle.std.proofs.lemmas.Bool.{lt-ltb, ne_eqb, eqb-false}
use Rattle.std.proofs.lemmas.Int.Digits.{digits_more, digits_value_more, digits_value-lt}
use Rattle.std.proofs.lemmas.Str.{digit_value_digit}
use Rattle.std.proofs.lemmas.Str.Parse.{digit_from_value}
use Rattle.std.specs.Char.{digit_value}
use Rattle.std.specs.Prelude.{slice_index}
use Rattle.fast_float.specs.Text.{minus}
use Rattle.std.proofs.lemmas.List.{get_or_past}
use Rattle.std.specs.Float.Numeral.{Parts, scan_numeral, digits_end}
use Rattle.std.proofs.lemmas.Str.Parse.{without_leading_plus_none}
use Rattle.std.specs.Option.{IfSome}
use Rattle.std.specs.Result.{result_ok}
use Rattle.std.specs.Str.Parse.{AllDigits, IsNumeral, ParsesUnsigned, digits_value}
use Rattle.fast_float.proofs.Integers.{digits_len_all}
use Rattle.serde_json.specs.Data.{unsigned}
use Rattle.serde_json.specs.Read.{number_from, number_of}

-- the parts of digits
abbrev plain : List ℕ → Parts
plain ds = record { whole = ds; point = false; fraction = []; exponent_negative = false; exponent = []; len = length ds }

scan_plain : (ds : List ℕ) → AllDigits 10 ds → scan_numeral ds ≡ plain ds
unfolding scan_numeral
scan_plain ds h =
    let end : digits_end ds 0 ≡ length ds = omega (arith, digits_len_all ds h) in
    let past : get_or ds (length ds) 0 ≡ 0 = get_or_past ds (length ds) 0 (omega arith) in
    let whole : take (length ds - 0) ds ≡ ds = take_all (length ds - 0) ds (omega arith) in
    simp (end, past, whole) refl

number_from_plain : (ds : List ℕ) → 0 < length ds → AllDigits 10 ds → digits_value 10 ds < 2 ^ 64 → number_from false (scan_numeral ds) ≡ Some (unsigned (digits_value 10 ds))
number_from_plain ds some all fits = rw (scan_plain ds all, append-nil ds, lt-ltb 0 (length ds) some, lt-ltb (digits_value 10 ds) (2 ^ 64) fits) refl

-- what is read as an integer, with no plus before it
pub read_plain : {E : Type 0} (ds : List ℕ) (r : Result ℕ E) → (get_or ds 0 0 ≡ 43 → ⊥) → ParsesUnsigned 64 10 ds r → IfSome (result_ok r) (λ n. number_from false (scan_numeral ds) ≡ Some (unsigned n))
read_plain ds (Err e) no_plus h = tt
read_plain ds (Ok n) no_plus h =
    let digits = subst (λ bs. (IsNumeral 10 bs × (digits_value 10 bs < 2 ^ 64)) × (n ≡ digits_value 10 bs)) (without_leading_plus_none ds no_plus) h in
    number_from_plain ds digits.0.0.0 digits.0.0.1 digits.0.1 ∙ ap (λ m. Some (unsigned m)) (sym digits.1)

-- ---- a few digits, one after the other

pub one_digit_more : (ds : List ℕ) (at n : ℕ) → at < length ds → 48 ≤ get_or ds at 0 → get_or ds at 0 ≤ 57 → AllDigits 10 (take at ds) → n ≡ digits_value 10 (take at ds)
    → AllDigits 10 (take (at + 1) ds) × (n * 10 + (get_or ds at 0 - 48) ≡ digits_value 10 (take (at + 1) ds))
one_digit_more ds at n within low high all is =
    let d = get_or ds at 0 in
    let told = digit_value_digit d (low, high) in
    let v : digit_value d ≡ d - 48 = omega (arith, told) in
    (digits_more 10 ds at within all (omega (arith, told, high)), sym (digits_value_more 10 ds at within ∙ ap₂ (λ m k. m * 10 + k) (sym is) v))

pub below_few : (ds : List ℕ) (at n : ℕ) → at < length ds → length ds ≤ 9 → AllDigits 10 (take at ds) → n ≡ digits_value 10 (take at ds) → n < 10 ^ 8
below_few ds at n within few all is =
    let len : length (take at ds) ≤ 8 = omega (arith, length-take at ds, within, few) in
    let most : 10 ^ length (take at ds) ≤ 10 ^ 8 = pow-le-pow_right {n = 10} (omega arith) len in
    omega (arith, is, digits_value-lt 10 (take at ds) all, most)

no_minus : (ds : List ℕ) → 0 < length ds → AllDigits 10 ds → (slice_index ds 0 == minus) ≡ false
no_minus [] some all = absurd (omega (arith, some))
no_minus (c ∷ cs) some all = let k = digit_from_value c all.0 in ne_eqb c 45 (λ e. omega (arith, e, k.0))

number_of_few : (ds : List ℕ) → 0 < length ds → length ds ≤ 9 → AllDigits 10 ds → number_of ds ≡ Some (unsigned (digits_value 10 ds))
unfolding number_of
number_of_few ds some few all =
    let most : 10 ^ length ds ≤ 10 ^ 9 = pow-le-pow_right {n = 10} (omega arith) few in
    rw (no_minus ds some all) (number_from_plain ds some all (omega (arith, digits_value-lt 10 ds all, most)))

-- all of them were read
pub read_short : (text ds : List ℕ) (at n : ℕ) → ds ≡ text → (length ds == 0) ≡ false → length ds ≤ 9 → length ds ≤ at → AllDigits 10 (take at ds) → n ≡ digits_value 10 (take at ds) → number_of text ≡ Some (unsigned n)
read_short text ds at n same some few over all is =
    let whole = take_all at ds over in
    ap number_of (sym same) ∙ number_of_few ds (let p = eqb-false (length ds) 0 some in omega (arith, p)) few (subst (AllDigits 10) whole all) ∙ ap (λ m. Some (unsigned m)) (sym (is ∙ ap (digits_value 10) whole))
