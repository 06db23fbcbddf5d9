use Rattle.std.proofs.Common.{arith}
use Rattle.trace_stages.specs.Known.{plain_known}
use Rattle.trace_stages.specs.Outcomes.{failing}
use Rattle.trace_stages.proofs.HandingOn.{handed_more}
use Rattle.trace_stages.proofs.handed_on.thrower.Goals as goal

pub loop-child-preserved : goal.loop-child-preserved
loop-child-preserved c = handed_more (plain_known c.args.known.now) (failing c.args.failures.now) c.args.place c.children_at-child-items.result.now c.loop-child.child-index _ c.loop-child.last c.last_with-last.result (omega arith) c.loop-child.invariant c.last_with-last.ensures
