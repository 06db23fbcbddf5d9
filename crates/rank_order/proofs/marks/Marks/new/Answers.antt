use Rattle.std.proofs.Common.{None, heap_items}
use Rattle.rank_order.proofs.MarkHeaps.{none_stored}
use Rattle.rank_order.proofs.marks.Marks.new.Goals as goal

pub invariant_of-result : goal.invariant_of-result
invariant_of-result c = none_stored (heap_items c.new.result) None c.new.ensures.items c.new.ensures.heap_order tt
