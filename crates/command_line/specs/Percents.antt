-- Percentages, as words spell them.
use Rattle.std.specs.Prelude.{ℕ, ◌-◌, Bool, ◌&&◌, ◌==◌, nat_le, nat_lt, if◌then◌else◌, List, length, take, slice_index, Option, Some, None}
use Rattle.std.specs.Char.{is_ascii_digit}
use Rattle.std.specs.List.{list_all}
use Rattle.std.specs.Option.{option_and_then}
use Rattle.std.specs.Str.Parse.{digits_value}

-- digits, at least one
abbrev pub are_digits : List ℕ → Bool
are_digits text = nat_lt 0 (length text) && list_all is_ascii_digit text

-- the number, if less than all is left by it
abbrev pub within_most : ℕ → Option ℕ
within_most n = if nat_le n 99 then Some n else None

-- the number that digits spell, if it is one of those
abbrev pub hundredths_of : List ℕ → Option ℕ
hundredths_of digits = if are_digits digits then within_most (digits_value 10 digits) else None

-- what stands before a `%` at the end
abbrev pub before_percent : List ℕ → Option (List ℕ)
before_percent text = if nat_lt 0 (length text) && slice_index text (length text - 1) == 37 then Some (take (length text - 1) text) else None

-- the hundredths that a word says: a whole number from 0 to 99, with `%` behind it
abbrev pub percent_in : List ℕ → Option ℕ
percent_in word = option_and_then hundredths_of (before_percent word)

-- the hundredths that are asked for; none are left where no word says some
abbrev pub percent_asked : Option (List ℕ) → Option ℕ
percent_asked None = Some 0
percent_asked (Some word) = percent_in word
