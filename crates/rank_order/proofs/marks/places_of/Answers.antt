use Rattle.rank_order.specs.PlaceSets.{is_within}
use Rattle.rank_order.proofs.MarkHeaps.{inserted_next}
use Rattle.rank_order.proofs.marks.places_of.Goals as goal

pub loop-mark-preserved : goal.loop-mark-preserved
loop-mark-preserved c =
    inserted_next _ _ c.as_slice-mark-items.ensures.value _ _ c.loop-mark-test.true (is_within c.loop-mark.places) (is_within c.reserve.new.self) (is_within c.insert.new.self)
    c.loop-mark.invariant c.reserve.ensures.same c.insert.ensures
