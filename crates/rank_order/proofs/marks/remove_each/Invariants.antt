use Rattle.std.proofs.Common.{◌≡◌, ℕ, true, drop, heap_items}
use Rattle.rank_order.specs.Lists.{is_among}
use Rattle.rank_order.specs.MarkHeaps.{places_in}
use Rattle.rank_order.specs.PlaceSets.{is_within}
use Rattle.rank_order.proofs.marks.remove_each.Given as goal

-- only places of the marks from here on are left
abbrev pub invariant-loop-mark : goal.invariant-loop-mark
invariant-loop-mark l = (place : ℕ) → is_within l.places place ≡ true → is_among place (drop l.mark-index (places_in (heap_items l.heap))) ≡ true
