use Rattle.std.proofs.Common.{◌∙◌, Some, ap, true}
use Rattle.trace_relations.specs.KeptCalled.{called_with}
use Rattle.trace_relations.specs.Sets.{set_for}
use Rattle.trace_relations.proofs.GivingUp.{one_noted}
use Rattle.trace_relations.proofs.given_up.note.Goals as goal

pub returns : goal.returns
returns c = λ order are. one_noted (called_with c.args.called) order c.args.place c.args.callers.now (record { has_failure = c.set_for.new.values; has_run_on = c.set_for-2.new.values; answer = c.set_for-3.new.values }) are (record {
  has_failure = c.set_for.ensures ∙ ap (λ who. set_for c.args.callers.now.has_failure.items who true) c.failed_for.ensures;
  has_run_on = c.set_for-2.ensures ∙ ap (λ who. set_for c.args.callers.now.has_run_on.items who true) c.outlived.ensures;
  answer = c.set_for-3.ensures ∙ ap (λ who. set_for c.args.callers.now.answer.items who (Some c.args.place)) c.answered.ensures;
})
