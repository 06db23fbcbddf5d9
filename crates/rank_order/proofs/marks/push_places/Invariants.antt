use Rattle.std.proofs.Common.{◌≡◌, ◌+◌, ◌++◌, ◌≤◌, map, take, heap_items, vec_len, vec_capacity}
use Rattle.rank_order.specs.Marks.{place_of}
use Rattle.rank_order.specs.MarkHeaps.{marks_in}
use Rattle.rank_order.proofs.marks.push_places.Given as goal

abbrev pub invariant-loop-mark : goal.invariant-loop-mark
invariant-loop-mark l = record {
  places : l.level.items ≡ l.fn.level.items ++ map place_of (marks_in (take l.mark-index (heap_items l.heap)));
  len : vec_len l.level ≡ vec_len l.fn.level + l.mark-index;
  room : vec_capacity l.fn.level ≤ vec_capacity l.level;
}
