use Rattle.std.proofs.Common.{arith}
use Rattle.trace_relations.specs.Relations.{plain}
use Rattle.trace_stages.specs.Called.{ending}
use Rattle.trace_stages.proofs.Calling.{open_pushed}
use Rattle.trace_stages.proofs.walk.called.by_end.Goals as goal

pub loop-at-preserved : goal.loop-at-preserved
loop-at-preserved c = open_pushed (plain c.args.relations.now) c.args.moments.now c.loop-at.at-index _ (ending c.args.moments.now) c.loop-at.places.items c.push_if.new.places.items c.starts_open.result (omega arith) c.loop-at.invariant c.starts_open.ensures c.in_ok-push_if.ensures
