use Rattle.std.proofs.Common.{◌≡◌, ℕ, vec_len}
use Rattle.std.specs.Prelude.{filter}
use Rattle.std.specs.List.{range_with_len}
use Rattle.trace_relations.specs.KeptMoves.{is_of, numbers_at}
use Rattle.trace_relations.proofs.placing.pairs_by_clock.Given as goal

-- the pairs so far
abbrev pub invariant-loop-number : goal.invariant-loop-number
invariant-loop-number l = (vec_len l.all ≡ l.count) × ((clock : ℕ) → numbers_at l.all.items clock ≡ filter (is_of l.pairs clock) (range_with_len 0 l.number))
