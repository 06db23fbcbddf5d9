-- How many ticks something takes: so many, or a share of what it took.
use Rattle.std.specs.Prelude.{ℕ, ◌*◌, ◌/◌, nat_lt, if◌then◌else◌, Option, Some, None}
use Rattle.change_words.specs.declared.amount.Amount.{Amount}
use Rattle.change_words.specs.declared.amount.Amount.TheVariants.{Ticks, Share}

-- so many hundredths, if they are no more than 100,000
abbrev pub percent_of : ℕ → Option ℕ
percent_of n = if nat_lt 100000 n then None else Some n

-- so many hundredths of a number of ticks, rounded down
abbrev pub share_of : ℕ → ℕ → ℕ
share_of percent ticks = ticks * percent / 100

-- so many ticks, or that share of what it took
abbrev pub ticks_of : Amount → ℕ → ℕ
ticks_of (Ticks ticks) taken = ticks
ticks_of (Share percent) taken = share_of percent taken

-- what is assigned, from what it took; as many ticks, where nothing is
abbrev pub amount_in : Option Amount → ℕ → ℕ
amount_in None taken = taken
amount_in (Some amount) taken = ticks_of amount taken
