-- The search for the most ticks at which a test holds: by doubling, and then by halving. Where it holds at 0 and not past some
-- ticks, what is found is a number at which it holds, while it doesn't hold at the next one.
use Rattle.std.specs.Prelude.{ℕ, zero, suc, ◌≡◌, ◌+◌, ◌-◌, ◌/◌, ◌^◌, ◌<◌, Bool, true, false, nat_lt, ◌&&◌, if◌then◌else◌, Option, Some, None}

-- which power of two is the first at which the test doesn't hold, beginning with this one and at most so often doubled
abbrev pub doublings : (ℕ → Bool) → ℕ → ℕ → ℕ
doublings test zero power = power
doublings test (suc times) power = if test (2 ^ power) then doublings test times (power + 1) else power

-- where the test holds at these ticks: as many more as the power says, if it holds there too, and then halves of these
abbrev pub halvings : (ℕ → Bool) → ℕ → ℕ → ℕ
halvings test zero ticks = ticks
halvings test (suc power) ticks = halvings test power (if test (ticks + 2 ^ power) then ticks + 2 ^ power else ticks)

-- from the last power of two at which it holds, or from 0
abbrev pub from_power : (ℕ → Bool) → ℕ → ℕ
from_power test power = halvings test (power - 1) (2 ^ power / 2)

abbrev pub below : ℕ → (ℕ → Bool) → ℕ → Bool
below most test ticks = nat_lt ticks most && test ticks

-- below this many ticks
abbrev pub searched : ℕ → (ℕ → Bool) → ℕ
searched most test = from_power (below most test) (doublings (below most test) most 0)

-- none where it holds at the most ticks
abbrev pub most_ticks : ℕ → (ℕ → Bool) → Option ℕ
most_ticks most test = if test most then None else Some (searched most test)

-- it holds at the most ticks; or at these, which are fewer, and not at one more
abbrev pub IsEdge : ℕ → (ℕ → Bool) → Option ℕ → Type 0
IsEdge most test None = test most ≡ true
IsEdge most test (Some ticks) = (ticks < most) × (test ticks ≡ true) × (test (ticks + 1) ≡ false)
