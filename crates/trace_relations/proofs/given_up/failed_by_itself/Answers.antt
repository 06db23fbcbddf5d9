use Rattle.std.proofs.Common.{◌∙◌, List, Bool, ap, false}
use Rattle.std.specs.Prelude.{◌&&◌, not, slice_get, unwrap_or}
use Rattle.trace_relations.specs.Attempts.{has_failed}
use Rattle.trace_relations.specs.GivenUp.{has_end}
use Rattle.trace_relations.specs.KeptCalled.{called_with}
use Rattle.trace_relations.proofs.GivingUp.{failure_known}
use Rattle.trace_relations.proofs.given_up.failed_by_itself.Goals as goal

pub returns : goal.returns
returns c = λ order all are lt.
    c.failed_alone.ensures ∙ ap (λ b. has_failed (slice_get c.args.called.spans.now c.args.place) && (has_end c.args.called.intervals.now c.args.place && not b))
    (c.is_set-has_failure.ensures ∙ ap (λ (those : List Bool). unwrap_or (slice_get those c.args.place) false) c.deref.ensures.value ∙ failure_known (called_with c.args.called) order c.args.callers.now c.args.place all are lt)
