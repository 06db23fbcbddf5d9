use Rattle.std.proofs.Common.{◌++◌, Result, Ok, refl, sym, subst}
use Rattle.std.proofs.lemmas.Result.{err_from_is_err_and}
use Rattle.serde_json.specs.Data.{Items}
use Rattle.trace_spans.specs.declared.fault.Fault.{Fault}
use Rattle.trace_spans.specs.Members.{then_on}
use Rattle.trace_spans.specs.Otlp.{spans_of_list, spans_of_resource, spans_of_resources}
use Rattle.trace_spans.specs.Reads.{IsFault}
use Rattle.trace_spans.proofs.Reading.{fault_of_added, part_added, part_refused}
use Rattle.trace_spans.proofs.otlp.add_list.Goals as goal

pub loop-resource-preserved : goal.loop-resource-preserved
loop-resource-preserved c =
    part_added (spans_of_resources c.args.list) _ c.loop-resource.resources c.next.new.self c.in-Some.resource (spans_of_resource c.args.list c.in-Some.resource) c.loop-resource.spans c.add_resource.new.spans
    c.loop-resource.invariant c.in-Some.ensures.value refl c.in_ok-add_resource.ensures

pub returns-in_err-add_resource : goal.returns-in_err-add_resource
unfolding spans_of_list
returns-in_err-add_resource c =
    let fault = c.in_err-add_resource.field-0.0 in
    let list = c.args.list in
    let old = c.args.spans.now in
    let p = err_from_is_err_and c.from_residual-in_err-add_resource.result c.from_residual-in_err-add_resource.ensures.1 in
    rw (p.1, p.2)
    (subst (λ (r : Result Items Fault). IsFault fault (then_on (then_on r (spans_of_resources list)) (λ more. Ok (old ++ more)))) (sym c.in_ok-resources.ensures)
    (part_refused fault (spans_of_resources list) _ c.loop-resource.resources c.next.new.self c.in-Some.resource (spans_of_resource list c.in-Some.resource)
    (λ first. then_on (spans_of_resources list c.next.new.self) (λ others. Ok (first ++ others))) c.loop-resource.spans c.loop-resource.invariant c.in-Some.ensures.value refl
    (fault_of_added fault (spans_of_resource list c.in-Some.resource) c.loop-resource.spans c.in_err-add_resource.ensures)))
