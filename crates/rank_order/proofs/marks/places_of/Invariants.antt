use Rattle.std.proofs.Common.{◌≡◌, ℕ, take, heap_items}
use Rattle.rank_order.specs.Lists.{is_among}
use Rattle.rank_order.specs.MarkHeaps.{places_in}
use Rattle.rank_order.specs.PlaceSets.{is_within}
use Rattle.rank_order.proofs.marks.places_of.Given as goal

-- the places of the marks so far
abbrev pub invariant-loop-mark : goal.invariant-loop-mark
invariant-loop-mark l = (place : ℕ) → is_within l.places place ≡ is_among place (take l.mark-index (places_in (heap_items l.heap)))
