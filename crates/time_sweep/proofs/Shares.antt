-- Hundredths of a number of ticks have 64 bits.
use Rattle.std.proofs.Common.{◌≡◌, ℕ, ◌*◌, ◌^◌, ◌<◌, ◌≤◌, leb, true, arith}
use Rattle.std.proofs.lemmas.Bool.{leb-true}
use Rattle.std.proofs.lemmas.Nat.{mul-le}

pub share_fits : (ticks percent : ℕ) → leb ticks (2 ^ 40) ≡ true → percent < 256 → ticks * percent < 2 ^ 64
share_fits ticks percent tick few = let most : percent ≤ 255 = omega (arith, few) in omega (arith, mul-le ticks percent (2 ^ 40) 255 (leb-true ticks (2 ^ 40) tick) most)
