use Rattle.std.proofs.Common.{◌≡◌, ℕ, [], length}
use Rattle.failure_origins.specs.Lists.{list_at}
use Rattle.failure_origins.proofs.lists.empty_lists.Given as goal

abbrev pub invariant-loop-origin : goal.invariant-loop-origin
invariant-loop-origin l = record {
  long : length l.lists.items ≡ l._origin;
  empty : (origin : ℕ) → list_at l.lists.items origin ≡ [];
}
