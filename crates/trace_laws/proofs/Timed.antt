-- When spans go.
use Rattle.std.proofs.Common.{◌≡◌, ℕ, zero, suc, ◌≤◌, List, [], ◌∷◌, Some, arith}
use Rattle.std.specs.List.{AllByRecursion as Each}
use Rattle.std.proofs.lemmas.Option.{none-some}
use Rattle.trace_relations.specs.Moments.{interval_at}
use Rattle.trace_relations.specs.Ticks.{last_tick}
use Rattle.trace_relations.specs.declared.moment.Interval.{Interval}

-- an interval ends no earlier than it starts, and no later than the last tick
pub record IsTimed (interval : Interval) : Type 0 where
  pub start : interval.start ≤ last_tick
  pub end : (tick : ℕ) → interval.end ≡ Some tick → (tick ≤ last_tick) × (interval.start ≤ tick)

pub timed_at : (intervals : List Interval) (place : ℕ) → Each IsTimed intervals → IsTimed (interval_at intervals place)
timed_at [] place h = record { start = omega arith; end = λ t e. absurd (none-some t e) }
timed_at (x ∷ xs) zero h = h.0
timed_at (x ∷ xs) (suc place) h = timed_at xs place h.1
