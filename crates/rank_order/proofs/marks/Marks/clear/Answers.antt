use Rattle.std.proofs.Common.{heap_items}
use Rattle.rank_order.proofs.MarkHeaps.{none_stored}
use Rattle.rank_order.proofs.marks.Marks.clear.Goals as goal

pub invariant_of-self : goal.invariant_of-self
invariant_of-self c = none_stored (heap_items c.clear.new.self) c.remove_places.new.places c.clear.ensures.items c.clear.ensures.heap_order c.remove_places.ensures
