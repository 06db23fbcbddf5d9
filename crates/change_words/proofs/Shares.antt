-- A share of a number of ticks has 64 bits.
use Rattle.std.proofs.Common.{◌≡◌, ℕ, ◌*◌, ◌^◌, ◌<◌, ◌≤◌, leb, true, arith}
use Rattle.std.proofs.lemmas.Bool.{leb-true}
use Rattle.std.proofs.lemmas.Nat.{mul-le}

pub share_fits : (ticks hundredths : ℕ) → leb ticks (2 ^ 40) ≡ true → hundredths ≤ 100000 → ticks * hundredths < 2 ^ 64
share_fits ticks hundredths tick few = omega (arith, mul-le ticks hundredths (2 ^ 40) 100000 (leb-true ticks (2 ^ 40) tick) few)
