use Rattle.std.proofs.Common.{arith}
use Rattle.trace_relations.specs.KeptAttempts.{calls_with}
use Rattle.trace_relations.proofs.Grouped.{all_failing, none_failing, one_failing}
use Rattle.trace_relations.proofs.group_keys.failing_callers.Goals as goal

pub loop-place-init : goal.loop-place-init
loop-place-init c = none_failing _ _ _

pub loop-place-preserved : goal.loop-place-preserved
loop-place-preserved c = one_failing _ _ c.loop-place.place c.loop-place.failing.items _ c.failed_for-caller.result c.failed_for-caller.ensures c.set_for.ensures c.loop-place.invariant

pub returns : goal.returns
returns c = all_failing (calls_with c.args.calls) c.loop-place.place _ (omega arith) c.loop-place.invariant
