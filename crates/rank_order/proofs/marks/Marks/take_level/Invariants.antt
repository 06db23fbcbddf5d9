use Rattle.std.proofs.Common.{◌≡◌, ℕ, ◌+◌, ◌<◌, ◌≤◌, ◌⊎◌, true, length, vec_len, vec_capacity}
use Rattle.rank_order.specs.Marks.{has_mark, AreFrom, AreLeft, AreMarks}
use Rattle.rank_order.proofs.Marking.{IsTaking}
use Rattle.rank_order.proofs.marks.Marks.take_level.Given as goal

abbrev pub invariant-loop-place : goal.invariant-loop-place
invariant-loop-place l = record {
  taking : (ranks : ℕ → ℕ) → AreMarks ranks l.fn.self → IsTaking ranks l.fn.self l.self l.rank l.level.items;
  left : AreLeft l.fn.self l.self;
  from : AreFrom l.self l.rank;
  some : (0 < vec_len l.level) ⊎ ((place : ℕ) × (has_mark l.self l.rank place ≡ true));
  room : vec_len l.level + length l.self ≤ vec_capacity l.level;
}

abbrev pub decreases-loop-place : goal.decreases-loop-place
decreases-loop-place l = length l.self
