use Rattle.std.proofs.Common.{◌≡◌, ℕ, Bool, length, take}
use Rattle.stage_graph.specs.Plain.{feeds_at}
use Rattle.rank_order.specs.DependentLists.{AreDependentLists, moving}
use Rattle.rank_order.proofs.rewire.move_dependent.Given as goal

abbrev pub invariant-loop-feed : goal.invariant-loop-feed
invariant-loop-feed g l = record {
  long : length (g.K.Keeps.items l.lists) ≡ length l.changed.places;
  its_dependents : (uses : ℕ → ℕ → Bool) → AreDependentLists uses (length l.changed.places) (g.K.Keeps.items l.fn.lists)
      → AreDependentLists (moving uses l.place (feeds_at l.changed.places l.place) (take l.feed-index l.feed-items)) (length l.changed.places) (g.K.Keeps.items l.lists);
}
