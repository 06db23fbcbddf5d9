use Rattle.std.proofs.Common.{◌≡◌, ℕ, Bool, true, ◌≤◌, length, take}
use Rattle.rank_order.specs.DependentLists.{AreDependentLists, with_feeds, listed}
use Rattle.rank_order.proofs.dependent_lists.add_dependent.Given as goal

abbrev pub invariant-loop-feed : goal.invariant-loop-feed
invariant-loop-feed l = record {
  long : length l.lists.items ≡ length l.fn.lists.items;
  its_dependents : (uses : ℕ → ℕ → Bool) (count : ℕ) → ((place other : ℕ) → uses place other ≡ true → other ≤ l.dependent) → AreDependentLists uses count (listed l.fn.lists.items)
      → AreDependentLists (with_feeds uses l.dependent (take l.feed-index l.feeds)) count (listed l.lists.items);
}
