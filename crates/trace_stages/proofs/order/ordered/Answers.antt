use Rattle.std.proofs.Common.{arith}
use Rattle.trace_stages.specs.Scene.{plain_scene}
use Rattle.trace_stages.proofs.Ordering.{visited_more}
use Rattle.trace_stages.proofs.order.ordered.Goals as goal

pub loop-of_span-preserved : goal.loop-of_span-preserved
loop-of_span-preserved c = (
  visited_more (plain_scene c.args.scene.now) c.args.visits.now c.loop-of_span.of_span-index _ c.loop-of_span.ids.items c.visit.new.ids.items (omega arith) c.loop-of_span.invariant.0 (c.in_ok-visit.ensures.ids c.loop-of_span.invariant.1),
  c.in_ok-visit.ensures.noted c.loop-of_span.invariant.1,
)
