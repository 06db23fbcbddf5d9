use Rattle.std.proofs.Common.{◌∙◌, ap, arith, sym}
use Rattle.trace_relations.specs.Ancestry.{parent_at}
use Rattle.trace_relations.specs.Relations.{plain}
use Rattle.trace_stages.specs.Called.{called_at}
use Rattle.trace_stages.proofs.Calling.{none_called, one_called, past_called}
use Rattle.trace_stages.proofs.walk.called.add_given_up.Goals as goal

pub returns-in_default-clause-added : goal.returns-in_default-clause-added
returns-in_default-clause-added c = λ span lt. none_called (plain c.args.relations.now) c.args.place span (called_at c.args.all.now.items span) (sym (c.in_default.ensures ∙ ap (λ those. parent_at those c.args.place) c.deref.ensures.value))

pub returns-then-caller-len-clause-added : goal.returns-then-caller-len-clause-added
returns-then-caller-len-clause-added c = λ span lt. past_called (plain c.args.relations.now) c.args.place span c.in-Some.caller c.len.result (called_at c.args.all.now.items span) (sym (c.in-Some.ensures ∙ ap (λ those. parent_at those c.args.place) c.deref.ensures.value)) (omega arith) (omega arith)

pub returns-clause-added : goal.returns-clause-added
returns-clause-added c = λ span lt. one_called (plain c.args.relations.now) c.args.place span c.in-Some.caller (called_at c.args.all.now.items span) (called_at c.add_call.new.all.items span) c.called_by.result (sym (c.in-Some.ensures ∙ ap (λ those. parent_at those c.args.place) c.deref.ensures.value)) c.called_by.ensures (c.in_ok-add_call.ensures.added span)
