use Rattle.std.proofs.Common.{ℕ, List, Option, Result, Ok, sym, ap}
use Rattle.std.specs.Prelude.{codes}
use Rattle.std.proofs.lemmas.Result.{err_from_is_err_and}
use Rattle.serde_json.specs.Data.{Data}
use Rattle.trace_spans.specs.declared.fault.Fault.{Fault}
use Rattle.trace_spans.specs.declared.member.Member.TheVariants as member
use Rattle.trace_spans.specs.Clocks.{clock_of}
use Rattle.trace_spans.specs.Members.{then_on, object_in}
use Rattle.trace_spans.specs.Otlp.{attribute_by, clock_in}
use Rattle.trace_spans.proofs.After.{fault_after, read_after}
use Rattle.trace_spans.proofs.Reading.{fault_of_part}
use Rattle.trace_spans.proofs.otlp.resource.clock_of.Goals as goal

-- what is left after each of the parts
abbrev with_host : List ℕ → List ℕ → List ℕ → Result (List (List ℕ)) Fault
with_host service instance host = Ok (clock_of service instance host)

abbrev with_instance : Option Data → List ℕ → List ℕ → Result (List (List ℕ)) Fault
with_instance resource service instance = then_on (attribute_by (codes "host.name") resource) (with_host service instance)

abbrev with_service : Option Data → List ℕ → Result (List (List ℕ)) Fault
with_service resource service = then_on (attribute_by (codes "service.instance.id") resource) (with_instance resource service)

abbrev with_resource : Option Data → Result (List (List ℕ)) Fault
with_resource resource = then_on (attribute_by (codes "service.name") resource) (with_service resource)

pub returns-in_err-service : goal.returns-in_err-service
unfolding clock_in
returns-in_err-service c =
    let fault = c.in_err-service.field-0.0 in
    let resource = c.in_ok-resource.resource in
    let p = err_from_is_err_and c.from_residual-in_err-service.result c.from_residual-in_err-service.ensures.1 in
    rw (p.1, p.2)
    (fault_after fault (object_in member.Resource c.args.resource_spans.now) with_resource resource c.in_ok-resource.ensures
    (fault_of_part fault (attribute_by (codes "service.name") resource) (with_service resource) c.in_err-service.ensures))

pub returns-in_err-instance : goal.returns-in_err-instance
unfolding clock_in
returns-in_err-instance c =
    let fault = c.in_err-instance.field-0.0 in
    let resource = c.in_ok-resource.resource in
    let service = c.in_ok-service.service.now in
    let p = err_from_is_err_and c.from_residual-in_err-instance.result c.from_residual-in_err-instance.ensures.1 in
    rw (p.1, p.2)
    (fault_after fault (object_in member.Resource c.args.resource_spans.now) with_resource resource c.in_ok-resource.ensures
    (fault_after fault (attribute_by (codes "service.name") resource) (with_service resource) service c.in_ok-service.ensures
    (fault_of_part fault (attribute_by (codes "service.instance.id") resource) (with_instance resource service) c.in_err-instance.ensures)))

pub returns-in_err-host : goal.returns-in_err-host
unfolding clock_in
returns-in_err-host c =
    let fault = c.in_err-host.field-0.0 in
    let resource = c.in_ok-resource.resource in
    let service = c.in_ok-service.service.now in
    let instance = c.in_ok-instance.instance.now in
    let p = err_from_is_err_and c.from_residual-in_err-host.result c.from_residual-in_err-host.ensures.1 in
    rw (p.1, p.2)
    (fault_after fault (object_in member.Resource c.args.resource_spans.now) with_resource resource c.in_ok-resource.ensures
    (fault_after fault (attribute_by (codes "service.name") resource) (with_service resource) service c.in_ok-service.ensures
    (fault_after fault (attribute_by (codes "service.instance.id") resource) (with_instance resource service) instance c.in_ok-instance.ensures
    (fault_of_part fault (attribute_by (codes "host.name") resource) (with_host service instance) c.in_err-host.ensures))))

pub returns : goal.returns
unfolding clock_in
returns c =
    let resource = c.in_ok-resource.resource in
    let service = c.in_ok-service.service.now in
    let instance = c.in_ok-instance.instance.now in
    let host = c.in_ok-host.host.now in
    read_after (object_in member.Resource c.args.resource_spans.now) with_resource resource _ c.in_ok-resource.ensures
    (read_after (attribute_by (codes "service.name") resource) (with_service resource) service _ c.in_ok-service.ensures
    (read_after (attribute_by (codes "service.instance.id") resource) (with_instance resource service) instance _ c.in_ok-instance.ensures
    (read_after (attribute_by (codes "host.name") resource) (with_host service instance) host _ c.in_ok-host.ensures
    (ap Ok (sym c.in_ok-new.ensures)))))
