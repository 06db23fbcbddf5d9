-- Later ticks stand no further left.
use Rattle.std.proofs.Common.{ℕ, ◌-◌, ◌*◌, ◌/◌, ◌<◌, ◌≤◌, max, arith}
use Rattle.std.proofs.lemmas.Nat.{le-div}
use Rattle.std.proofs.Math.Nat.{div-mul-le_self, mul-le-mul_right}
use Rattle.timeline.specs.declared.scale.Scale.{Scale}
use Rattle.timeline.specs.Places.{ticks_into, units_into}

-- a share of more is no less
share_monotone : (less more width span : ℕ) → 0 < span → less ≤ more → less * width / span ≤ more * width / span
share_monotone less more width span some order =
    let low : less * width / span * span ≤ less * width = div-mul-le_self (less * width) span in
    let high : less * width ≤ more * width = mul-le-mul_right width order in
    le-div (less * width / span) (more * width) span some (omega (arith, low, high))

pub units_monotone : (scale : Scale) (tick later : ℕ) → tick ≤ later → units_into scale tick ≤ units_into scale later
units_monotone scale tick later order =
    share_monotone (ticks_into scale tick) (ticks_into scale later) scale.width (max (scale.last - scale.first) 1) (omega arith) (omega arith)
