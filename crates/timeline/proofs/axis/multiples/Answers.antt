use Rattle.std.proofs.Common.{arith}
use Rattle.std.specs.Int.{div_ceil}
use Rattle.timeline.proofs.Multiples.{multiples_more}
use Rattle.timeline.proofs.axis.multiples.Goals as goal

pub loop-multiple-preserved : goal.loop-multiple-preserved
loop-multiple-preserved c =
    multiples_more c.args.step (div_ceil c.args.first c.args.step) c.loop-multiple.multiple _ _ (omega arith) c.loop-multiple.invariant c.in_ok-push.ensures.items
