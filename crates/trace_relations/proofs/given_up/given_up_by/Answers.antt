use Rattle.std.proofs.Common.{◌∙◌, sym}
use Rattle.trace_relations.specs.KeptCalled.{called_with}
use Rattle.trace_relations.proofs.GivingUp.{none_given, not_given, one_given, own_child}
use Rattle.trace_relations.proofs.given_up.given_up_by.Goals as goal

pub returns-then-not-failed_by_itself : goal.returns-then-not-failed_by_itself
returns-then-not-failed_by_itself c = λ order all are spans.
    let lt = spans c.args.place c.in-Some.caller (sym c.in-Some.ensures) in
    none_given (called_with c.args.called) order c.args.place c.in-Some.caller (sym c.in-Some.ensures) (sym (c.if-not-failed_by_itself.ensures order all are lt))

pub returns-then-was_called : goal.returns-then-was_called
returns-then-was_called c = λ order all are spans.
    let lt = spans c.args.place c.in-Some.caller (sym c.in-Some.ensures) in
    let child = own_child c.args.called.parents.now c.in-Some.caller c.args.place (sym c.in-Some.ensures) in
    one_given (called_with c.args.called) order c.args.place c.in-Some.caller (sym c.in-Some.ensures) (sym (c.if-not-failed_by_itself.ensures order all are lt)) (sym (c.in_ok-was_called.ensures order all are child lt) ∙ c.if-was_called.true)

pub returns-else-was_called : goal.returns-else-was_called
returns-else-was_called c = λ order all are spans.
    let lt = spans c.args.place c.in-Some.caller (sym c.in-Some.ensures) in
    let child = own_child c.args.called.parents.now c.in-Some.caller c.args.place (sym c.in-Some.ensures) in
    not_given (called_with c.args.called) order c.args.place c.in-Some.caller (sym c.in-Some.ensures) (sym (c.if-not-failed_by_itself.ensures order all are lt)) (sym (c.in_ok-was_called.ensures order all are child lt) ∙ c.if-was_called.false)
