use Rattle.rank_order.specs.PlaceSets.{is_within}
use Rattle.rank_order.proofs.MarkHeaps.{removed_next}
use Rattle.rank_order.proofs.marks.remove_each.Goals as goal

pub loop-mark-preserved : goal.loop-mark-preserved
loop-mark-preserved c = removed_next _ _ c.as_slice-mark-items.ensures.value _ _ c.loop-mark-test.true (is_within c.loop-mark.places) (is_within c.remove.new.self) c.loop-mark.invariant c.remove.ensures
