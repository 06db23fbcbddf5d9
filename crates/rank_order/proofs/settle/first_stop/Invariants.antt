use Rattle.std.proofs.Common.{◌≡◌, ℕ, true, false, take}
use Rattle.rank_order.specs.Lists.{is_among}
use Rattle.rank_order.proofs.settle.first_stop.Given as goal

abbrev pub invariant-loop-dependent : goal.invariant-loop-dependent
invariant-loop-dependent l = (dependent : ℕ) → is_among dependent (take l.dependent-index l.its_dependents) ≡ true → is_among dependent l.out ≡ false → is_among dependent l.moved ≡ false
