use Rattle.std.proofs.Common.{◌++◌, Result, Ok, refl, sym, subst}
use Rattle.std.proofs.lemmas.Result.{err_from_is_err_and}
use Rattle.serde_json.specs.Data.{Items}
use Rattle.trace_spans.specs.declared.fault.Fault.{Fault}
use Rattle.trace_spans.specs.Members.{then_on}
use Rattle.trace_spans.specs.Otlp.{spans_of_scope, spans_of_scope_list, spans_of_scopes}
use Rattle.trace_spans.specs.Reads.{IsFault}
use Rattle.trace_spans.proofs.Reading.{fault_of_added, part_added, part_refused}
use Rattle.trace_spans.proofs.otlp.resource.add_scopes.Goals as goal

pub loop-item-preserved : goal.loop-item-preserved
loop-item-preserved c =
    part_added (spans_of_scopes c.args.clock.now c.args.list) _ c.loop-item.items c.next.new.self c.in-Some.item (spans_of_scope c.args.clock.now c.args.list c.in-Some.item) c.loop-item.spans c.add_scope.new.spans
    c.loop-item.invariant c.in-Some.ensures.value refl c.in_ok-add_scope.ensures

pub returns-in_err-add_scope : goal.returns-in_err-add_scope
unfolding spans_of_scope_list
returns-in_err-add_scope c =
    let fault = c.in_err-add_scope.field-0.0 in
    let clock = c.args.clock.now in
    let list = c.args.list in
    let old = c.args.spans.now in
    let p = err_from_is_err_and c.from_residual-in_err-add_scope.result c.from_residual-in_err-add_scope.ensures.1 in
    rw (p.1, p.2)
    (subst (λ (r : Result Items Fault). IsFault fault (then_on (then_on r (spans_of_scopes clock list)) (λ more. Ok (old ++ more)))) (sym c.in_ok-items.ensures)
    (part_refused fault (spans_of_scopes clock list) _ c.loop-item.items c.next.new.self c.in-Some.item (spans_of_scope clock list c.in-Some.item)
    (λ first. then_on (spans_of_scopes clock list c.next.new.self) (λ others. Ok (first ++ others))) c.loop-item.spans c.loop-item.invariant c.in-Some.ensures.value refl
    (fault_of_added fault (spans_of_scope clock list c.in-Some.item) c.loop-item.spans c.in_err-add_scope.ensures)))
