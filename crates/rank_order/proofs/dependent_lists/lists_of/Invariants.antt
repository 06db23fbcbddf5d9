use Rattle.std.proofs.Common.{◌≡◌, ℕ, [], length, get_or}
use Rattle.rank_order.specs.DependentLists.{AreDependentLists, uses_before, listed}
use Rattle.rank_order.proofs.dependent_lists.lists_of.Given as goal

abbrev pub invariant-loop-place : goal.invariant-loop-place
invariant-loop-place g l = record {
  long : length l.lists.items ≡ l._place;
  empty : (place : ℕ) → get_or (listed l.lists.items) place [] ≡ [];
}

abbrev pub invariant-loop-dependent : goal.invariant-loop-dependent
invariant-loop-dependent g l = record {
  long : length l.lists.items ≡ length l.graph.places;
  its_dependents : AreDependentLists (uses_before l.graph.places l.dependent) (length l.graph.places) (listed l.lists.items);
}
