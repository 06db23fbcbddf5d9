use Rattle.std.proofs.Common.{◌≡◌, ℕ, Bool, [], length, take}
use Rattle.failure_origins.specs.Lists.{handles_after, AreListsWith}
use Rattle.failure_origins.proofs.lists.add_for_each.Given as goal

abbrev pub invariant-loop-feed : goal.invariant-loop-feed
invariant-loop-feed l = record {
  long : length l.handled.items ≡ length l.fn.handled.items;
  lists : (passes : ℕ → ℕ → Bool) (count : ℕ) → AreListsWith passes l.place (handles_after l.origins [] l.place) count l.fn.handled.items
      → AreListsWith passes l.place (handles_after l.origins (take l.feed-index l.feeds) l.place) count l.handled.items;
}
