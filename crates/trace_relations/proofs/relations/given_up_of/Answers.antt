use Rattle.std.proofs.Common.{◌≡◌, ℕ, None, length, replicate}
use Rattle.std.specs.Prelude.{Option}
use Rattle.std.proofs.lemmas.Result.{IfOk-weaker}
use Rattle.trace_relations.specs.GivenUp.{all_given_up}
use Rattle.trace_relations.specs.KeptCalled.{called_with}
use Rattle.trace_relations.specs.Relations.{given_up_of}
use Rattle.trace_relations.proofs.LeftAsTold.{given_up_found, given_up_told}
use Rattle.trace_relations.proofs.relations.given_up_of.Goals as goal

pub returns-then-as_told : goal.returns-then-as_told
returns-then-as_told c =
    let called = c.args.called in
    IfOk-weaker c.nothing_for.result (λ given_up. given_up.items ≡ replicate {A = Option ℕ} (length called.spans.now) None) (λ given_up. given_up.items ≡ given_up_of c.args.as_told called.spans.now c.args.order.now (called_with called))
    (λ given_up is. given_up_told c.args.as_told called.spans.now c.args.order.now (called_with called) given_up.items c.if-as_told.true is) c.nothing_for.ensures

pub returns-else-as_told : goal.returns-else-as_told
returns-else-as_told c =
    let called = c.args.called in
    IfOk-weaker c.all_given_up.result (λ given_up. given_up.items ≡ all_given_up (called_with called) c.args.order.now) (λ given_up. given_up.items ≡ given_up_of c.args.as_told called.spans.now c.args.order.now (called_with called))
    (λ given_up is. given_up_found c.args.as_told called.spans.now c.args.order.now (called_with called) given_up.items c.if-as_told.false is) c.all_given_up.ensures
