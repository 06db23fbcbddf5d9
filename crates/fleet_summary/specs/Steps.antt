-- Steps of times: 64 to each doubling.
use Rattle.std.specs.Prelude.{ℕ, ◌+◌, ◌-◌, ◌*◌, ◌/◌, ◌^◌}
use Rattle.std.specs.Int.{w64, leading_zeros}

-- how many bits of a time stand below its seven highest
abbrev pub bits_below : ℕ → ℕ
bits_below time = 57 - leading_zeros w64 time

-- A time's step is its highest bit and the six below it: 64 times how many bits there are below them, and what they say.
-- So each time below 128 is a step of its own, and from there on each doubling has 64 steps of equal width.
unfoldable pub step_of : ℕ → ℕ
step_of time = 64 * bits_below time + time / 2 ^ bits_below time

-- how many bits stand below the seven highest in each time of a step
abbrev pub bits_below_step : ℕ → ℕ
bits_below_step step = step / 64 - 1

-- the greatest time of a step: what the seven highest bits say, and every bit below them set
unfoldable pub upper_end : ℕ → ℕ
upper_end step = (step - 64 * bits_below_step step + 1) * 2 ^ bits_below_step step - 1
