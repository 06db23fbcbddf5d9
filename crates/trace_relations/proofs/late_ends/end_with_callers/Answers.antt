use Rattle.std.proofs.Common.{arith, get_or, refl}
use Rattle.trace_relations.proofs.LateEnding.{cut_more}
use Rattle.trace_relations.proofs.late_ends.end_with_callers.Goals as goal

pub loop-place-preserved : goal.loop-place-preserved
loop-place-preserved c =
    cut_more c.args.spans.now c.args.references.now c.args.order.now c.loop-place.place-index (get_or c.args.order.now c.loop-place.place-index 0) c.args.intervals.now c.loop-place.intervals c.end_with_caller.new.intervals (omega arith) refl c.loop-place.invariant c.end_with_caller.ensures
