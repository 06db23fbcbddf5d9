use Rattle.std.proofs.Common.{arith}
use Rattle.trace_stages.proofs.Steps.{start_more}
use Rattle.trace_stages.proofs.walk.walking.earliest_start.Goals as goal

pub loop-call-preserved : goal.loop-call-preserved
loop-call-preserved c = start_more c.args.start c.args.calls.now c.loop-call.call-index _ c.loop-call.since c.min-since.result (omega arith) c.loop-call.invariant c.min-since.ensures
