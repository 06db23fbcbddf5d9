use Rattle.std.proofs.Common.{◌∙◌, ap, arith}
use Rattle.trace_stages.specs.Outcomes.{plain_sight}
use Rattle.trace_stages.proofs.Joining.{join_pushed}
use Rattle.trace_stages.proofs.outcomes.join_outcomes.Goals as goal

pub loop-sources-preserved : goal.loop-sources-preserved
loop-sources-preserved c = join_pushed (plain_sight c.args.sight) c.args.joins.now c.loop-sources.sources-index c.sources-item.result c.loop-sources.outcomes.items c.deref.result.now c.push.new.self.items c.deref-in-loop-sources.result.now c.join_outcome-outcome.result (omega arith) c.loop-sources.invariant c.deref.ensures.value (c.deref-in-loop-sources.ensures.value ∙ ap (λ those. those.items) c.sources-item.is) c.join_outcome-outcome.ensures c.in_ok-push.ensures.items
