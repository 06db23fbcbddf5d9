use Rattle.std.proofs.Common.{◌≡◌, ◌+◌, ◌++◌, [], ◌∷◌, get_or, subst, sym, take, arith, rules}
use Rattle.std.proofs.lemmas.List.{take_all, take_more}
use Rattle.trace_relations.specs.KeptCalled.{AreCallers, called_with}
use Rattle.trace_relations.proofs.GivingUp.{none_noted}
use Rattle.trace_relations.proofs.given_up.callers_of.Goals as goal

pub loop-place-init : goal.loop-place-init
loop-place-init c =
    none_noted (called_with c.args.called) (record { has_failure = c.in_ok-has_failure.has_failure; has_run_on = c.in_ok-has_run_on.has_run_on; answer = c.in_ok-answer.answer }) (search rules) (search rules) (search rules)

pub loop-place-preserved : goal.loop-place-preserved
loop-place-preserved c =
    let i = c.loop-place.place-index in
    let order = c.args.order.now in
    let more : take (i + 1) order ≡ take i order ++ get_or order i 0 ∷ [] = take_more order i 0 (omega arith) in
    subst (λ those. AreCallers (called_with c.args.called) those c.note.new.callers) (sym more) (c.note.ensures (take i order) c.loop-place.invariant)

pub returns : goal.returns
returns c = subst (λ those. AreCallers (called_with c.args.called) those c.loop-place.callers) (take_all c.loop-place.place-index c.args.order.now (omega arith)) c.loop-place.invariant
