-- Numbers, as digits spell them.
use Rattle.std.specs.Prelude.{ℕ, ◌-◌, ◌^◌, Bool, ◌&&◌, ◌==◌, nat_lt, bytes_eq, codes, if◌then◌else◌, List, [], ◌∷◌, length, take, slice_index, Option, Some, None, Result, Ok, Err, pos, neg_ℤ, ℤ}
use Rattle.std.specs.Char.{is_ascii_digit}
use Rattle.std.specs.List.{list_all}
use Rattle.std.specs.Str.Parse.{digits_value}
use Rattle.act_expr.specs.declared.outcome.Value.{Value}
use Rattle.act_expr.specs.declared.outcome.Value.TheVariants.{Null, Num}
use Rattle.change_words.specs.declared.amount.Amount.{Amount}
use Rattle.change_words.specs.declared.amount.Amount.TheVariants.{Ticks, Share}
use Rattle.change_words.specs.declared.fault.Wrong.{Wrong}
use Rattle.change_words.specs.declared.fault.Wrong.TheVariants.{NoNumber, TooLarge, TooManyHundredths}
use Rattle.change_words.specs.Amounts.{percent_of}
use Rattle.change_words.specs.Results.{then_on}

-- digits, at least one
abbrev pub are_digits : List ℕ → Bool
are_digits text = nat_lt 0 (length text) && list_all is_ascii_digit text

abbrev pub below_64_bits : ℕ → Result ℕ Wrong
below_64_bits n = if nat_lt n (2 ^ 64) then Ok n else Err TooLarge

-- the number that digits spell
abbrev pub count_of : List ℕ → Result ℕ Wrong
count_of text = if are_digits text then below_64_bits (digits_value 10 text) else Err NoNumber

-- a text without a minus that it begins with
abbrev pub without_minus : List ℕ → List ℕ
without_minus [] = []
without_minus (x ∷ xs) = if x == 45 then xs else x ∷ xs

-- a number and the one below 0, within 64 bits
abbrev pub positive : ℕ → Result ℤ Wrong
positive n = if nat_lt n (2 ^ 63) then Ok (pos n) else Err TooLarge

abbrev pub negative : ℕ → Result ℤ Wrong
negative n = if nat_lt (2 ^ 63) n then Err TooLarge else Ok (neg_ℤ (pos n))

-- the number that digits spell, before which a minus may stand
abbrev pub signed_of : List ℕ → Result ℤ Wrong
signed_of [] = Err NoNumber
signed_of (x ∷ xs) =
    if x == 45 then (if are_digits xs then negative (digits_value 10 xs) else Err NoNumber)
    else (if are_digits (x ∷ xs) then positive (digits_value 10 (x ∷ xs)) else Err NoNumber)

abbrev pub value_of : List ℕ → Result Value Wrong
value_of text = if bytes_eq text (codes "null") then Ok Null else then_on (signed_of text) (λ number. Ok (Num number))

abbrev pub percent_or_fault : Option ℕ → Result ℕ Wrong
percent_or_fault None = Err TooManyHundredths
percent_or_fault (Some percent) = Ok percent

-- so many hundredths
abbrev pub percent_in : List ℕ → Result ℕ Wrong
percent_in digits = then_on (count_of digits) (λ n. percent_or_fault (percent_of n))

-- what stands before a `%` at the end
abbrev pub before_percent : List ℕ → Option (List ℕ)
before_percent text = if nat_lt 0 (length text) && slice_index text (length text - 1) == 37 then Some (take (length text - 1) text) else None

abbrev pub share_in : List ℕ → Result Amount Wrong
share_in digits = then_on (percent_in digits) (λ percent. Ok (Share percent))

abbrev pub ticks_in : List ℕ → Result Amount Wrong
ticks_in digits = then_on (count_of digits) (λ n. Ok (Ticks n))

abbrev pub amount_or_share : List ℕ → Option (List ℕ) → Result Amount Wrong
amount_or_share text None = ticks_in text
amount_or_share text (Some digits) = share_in digits

-- a number of ticks, or of hundredths, behind which `%` stands
abbrev pub amount_of : List ℕ → Result Amount Wrong
amount_of text = amount_or_share text (before_percent text)
