use Rattle.std.proofs.Common.{◌∙◌, get_or, refl, arith}
use Rattle.trace_relations.specs.KeptAttempts.{calls_with, plain_attempts}
use Rattle.trace_relations.proofs.Trying.{all_tried, call_among, none_tried, tried_next}
use Rattle.trace_relations.proofs.attempts.tried_in.Goals as goal

pub loop-call-init : goal.loop-call-init
loop-call-init c = record { tried = none_tried _ _ _; kept = c.requires.kept; groups = c.requires.groups }

pub loop-call-preserved : goal.loop-call-preserved
loop-call-preserved c =
    let order = c.args.order.now in
    let i = c.loop-call.call-index in
    let done = c.try_call.ensures order c.requires.order c.loop-call.invariant.kept c.loop-call.invariant.groups (call_among order i (get_or order i 0) (omega arith) refl) in
    record {
      tried = done.tried ∙ tried_next (calls_with c.args.calls) order (plain_attempts c.args.attempts.now) (plain_attempts c.loop-call.attempts) i (get_or order i 0) (omega arith) refl c.loop-call.invariant.tried;
      kept = done.kept;
      groups = done.groups_are;
    }

pub returns : goal.returns
returns c = c.loop-call.invariant.tried ∙ all_tried (calls_with c.args.calls) c.args.order.now (plain_attempts c.args.attempts.now) c.loop-call.call-index (omega arith)
