-- Round numbers, and the ticks of an axis.
use Rattle.std.specs.Prelude.{ℕ, ◌≡◌, ◌+◌, ◌-◌, ◌*◌, ◌/◌, ◌^◌, ◌<◌, ◌≤◌, ◌⊎◌, List, map}
use Rattle.std.specs.Int.{div_ceil}
use Rattle.std.specs.List.{range_with_len}

-- 1, 2 or 5 times a power of ten
abbrev pub IsRound : ℕ → Type 0
IsRound step = (digits : ℕ) × ((step ≡ 10 ^ digits) ⊎ (step ≡ 2 * 10 ^ digits) ⊎ (step ≡ 5 * 10 ^ digits))

-- 1, 2 and 5 times a power of ten go at least so often into a span
pub record IsPassed (span most power : ℕ) : Type 0 where
  pub one : most ≤ span / power
  pub two : most ≤ span / (2 * power)
  pub five : most ≤ span / (5 * power)

-- of 1, 2 and 5 times a power of ten the least that goes less often into a span
pub record IsStepOf (span most power step : ℕ) : Type 0 where
  pub factor : (step ≡ power) ⊎ (step ≡ 2 * power) ⊎ (step ≡ 5 * power)
  pub few : span / step < most
  pub one : power < step → most ≤ span / power
  pub two : 2 * power < step → most ≤ span / (2 * power)

-- the multiples of a step from one tick to another, in order
abbrev pub multiples : ℕ → ℕ → ℕ → List ℕ
multiples first last step =
    map (λ multiple. multiple * step) (range_with_len (div_ceil first step) (last / step + 1 - div_ceil first step))

-- the multiples of the least round step that goes less than `most` times into the span
pub record IsAxis (first last most : ℕ) (ticks : List ℕ) : Type 0 where
  pub step : ℕ
  pub round : IsRound step
  pub few : (last - first) / step < most
  pub least : (other : ℕ) → IsRound other → other < step → most ≤ (last - first) / other
  pub named : ticks ≡ multiples first last step
