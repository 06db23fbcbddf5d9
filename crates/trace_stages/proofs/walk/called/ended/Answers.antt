use Rattle.std.proofs.Common.{arith}
use Rattle.trace_stages.proofs.Calling.{end_pushed}
use Rattle.trace_stages.proofs.walk.called.ended.Goals as goal

pub loop-at-preserved : goal.loop-at-preserved
loop-at-preserved c = end_pushed c.args.moments.now c.loop-at.at-index _ c.loop-at.places.items c.push_if.new.places.items c.ends.result (omega arith) c.loop-at.invariant c.ends.ensures c.in_ok-push_if.ensures
