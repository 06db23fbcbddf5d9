use Rattle.std.proofs.Common.{◌≡◌, ◌∙◌, None, ap, length, sym, subst, rules}
use Rattle.std.specs.Prelude.{slice_get}
use Rattle.trace_relations.proofs.Finding.{copied_at}
use Rattle.trace_relations.specs.GroupTakes.{HasTaken}
use Rattle.trace_relations.proofs.Taking.{take_at, take_none}
use Rattle.trace_relations.proofs.call_groups.Group.take_after.Goals as goal

pub returns-in_err-number-clause-taken : goal.returns-in_err-number-clause-taken
returns-in_err-number-clause-taken c = λ free rise are.
    let none : c.from_residual.result ≡ None = search rules in
    let calls = c.args.self.now.calls.items in
    subst (λ taken. HasTaken c.args.intervals.now c.args.end free calls taken c.take_from.new.self) (sym none)
    (take_none c.args.intervals.now c.args.end free calls c.first_after-from.result c.take_from.new.self (c.first_after-from.ensures rise) (c.in_err-number.ensures.first (length calls) free are) (c.in_err-number.ensures.taken (length calls) free are))

pub returns-clause-taken : goal.returns-clause-taken
returns-clause-taken c = λ free rise are.
    let calls = c.args.self.now.calls.items in
    let same : c.deref.result.now ≡ calls = search rules in
    let is : c.copied.result ≡ slice_get calls c.in_ok-number.number = c.copied.ensures ∙ copied_at c.deref.result.now c.in_ok-number.number c.get.result c.get.ensures.lookup ∙ ap (λ those. slice_get those c.in_ok-number.number) same in
    take_at c.args.intervals.now c.args.end free calls c.first_after-from.result c.in_ok-number.number c.take_from.new.self c.copied.result (c.first_after-from.ensures rise) (c.in_ok-number.ensures.first (length calls) free are) is (c.in_ok-number.ensures.taken (length calls) free are)
