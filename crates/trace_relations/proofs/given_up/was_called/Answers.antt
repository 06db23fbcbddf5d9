use Rattle.std.proofs.Common.{◌∙◌, List, Bool, Some, ap, false, refl, sym}
use Rattle.std.specs.Prelude.{nat_eq, slice_get, unwrap_or}
use Rattle.std.specs.Option.{option_eq}
use Rattle.trace_relations.specs.Ancestry.{parent_at}
use Rattle.trace_relations.specs.GivenUp.{is_unnamed, runs_on}
use Rattle.trace_relations.specs.KeptCalled.{called_with}
use Rattle.trace_relations.proofs.GivingUp.{answer_is, ran_is}
use Rattle.trace_relations.proofs.given_up.was_called.Goals as goal

pub returns-then-is_set : goal.returns-then-is_set
returns-then-is_set c = λ order all are child lt.
    c.outran.ensures
    ∙ ran_is (called_with c.args.called) order c.args.callers.now c.args.caller c.args.place (runs_on (called_with c.args.called) c.args.caller c.args.place) c.in_ok-is_late.is_late (is_unnamed (slice_get c.args.called.spans.now c.args.caller))
    all are child lt (ap (λ (those : List Bool). unwrap_or (slice_get those c.args.caller) false) (sym c.deref.ensures.value) ∙ sym c.if-is_set.ensures) refl c.in_ok-is_late.ensures refl

pub returns : goal.returns
returns c = λ order all are child lt.
    c.was_answering.ensures
    ∙ answer_is (called_with c.args.called) order c.args.callers.now c.args.caller c.args.place c.in_ok-is_late.is_late (option_eq nat_eq (parent_at c.args.callers.now.answer.items c.args.caller) (Some c.args.place))
    all are lt (ap (λ (those : List Bool). unwrap_or (slice_get those c.args.caller) false) (sym c.deref.ensures.value) ∙ sym c.if-is_set.ensures) c.in_ok-is_late.ensures refl
