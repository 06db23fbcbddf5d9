use Rattle.std.proofs.Common.{◌≡◌, ℕ, [], vec_len}
use Rattle.trace_relations.specs.KeptMoves.{numbers_at}
use Rattle.trace_relations.proofs.placing.no_numbers.Given as goal

-- so many clocks have none
abbrev pub invariant-loop-clock : goal.invariant-loop-clock
invariant-loop-clock l = (vec_len l.all ≡ l._clock) × ((clock : ℕ) → numbers_at l.all.items clock ≡ [])
