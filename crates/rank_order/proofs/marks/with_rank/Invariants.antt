use Rattle.std.proofs.Common.{◌≡◌, false, take, heap_items}
use Rattle.rank_order.specs.Lists.{is_among}
use Rattle.rank_order.specs.MarkHeaps.{places_in}
use Rattle.rank_order.proofs.marks.with_rank.Given as goal

-- the marks so far are of other places
abbrev pub invariant-loop-at : goal.invariant-loop-at
invariant-loop-at l = record {
  same : l.marks.items ≡ heap_items l.fn.heap;
  apart : is_among l.mark.place (take l.at (places_in (heap_items l.fn.heap))) ≡ false;
}
