-- Numbers of versions.
use Rattle.std.specs.Prelude.{ℕ, ◌^◌, Bool, ◌&&◌, nat_lt, if◌then◌else◌, List, length, Result, Ok, Err}
use Rattle.std.specs.Char.{is_ascii_digit}
use Rattle.std.specs.List.{list_all}
use Rattle.std.specs.Str.Parse.{digits_value}
use Rattle.step_words.specs.declared.mistake.Mistake.{Mistake}
use Rattle.step_words.specs.declared.mistake.Mistake.TheVariants.{NoNumber}

-- digits, at least one
abbrev pub are_digits : List ℕ → Bool
are_digits text = nat_lt 0 (length text) && list_all is_ascii_digit text

abbrev pub below_32_bits : ℕ → Result ℕ Mistake
below_32_bits n = if nat_lt n (2 ^ 32) then Ok n else Err NoNumber

-- the number that digits spell
abbrev pub number_in : List ℕ → Result ℕ Mistake
number_in text = if are_digits text then below_32_bits (digits_value 10 text) else Err NoNumber
