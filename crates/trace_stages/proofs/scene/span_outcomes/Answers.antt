use Rattle.std.proofs.Common.{arith}
use Rattle.std.proofs.lemmas.Grind.{common_steps}
use Rattle.trace_stages.specs.Outcomes.{plain_sight}
use Rattle.trace_stages.specs.PlainJoins.{plain_joins}
use Rattle.trace_stages.proofs.Joining.{one_handed_on}
use Rattle.trace_stages.proofs.scene.span_outcomes.Goals as goal

pub returns : goal.returns
returns c = one_handed_on (plain_sight c.args.sight) (plain_joins c.args.joins.now) c.args.handed.now c.in_ok-outcomes.outcomes.items c.deref.result.now c.push.new.self.items c.join_outcome-outcome.result (grind (arith, common_steps)) c.in_ok-outcomes.ensures c.deref.ensures.value c.join_outcome-outcome.ensures c.in_ok-push.ensures.items
