use Rattle.std.proofs.Common.{ℕ, List, ◌++◌, Result, Ok, sym, subst}
use Rattle.std.proofs.lemmas.Result.{err_from_is_err_and}
use Rattle.serde_json.specs.Data.{Data}
use Rattle.trace_spans.specs.declared.fault.Fault.{Fault}
use Rattle.trace_spans.specs.declared.member.Member.TheVariants as member
use Rattle.trace_spans.specs.declared.span.Span.{Span}
use Rattle.trace_spans.specs.Members.{then_on, item_in}
use Rattle.trace_spans.specs.Otlp.{clock_in, spans_of_resource, spans_of_scope_list}
use Rattle.trace_spans.specs.Reads.{IsReadAs}
use Rattle.trace_spans.proofs.After.{both_lists, fault_after}
use Rattle.trace_spans.proofs.Reading.{fault_of_added, fault_of_part}
use Rattle.trace_spans.proofs.otlp.resource.add_resource.Goals as goal

-- the spans of the scopes in both lists
abbrev with_clock : Data → List (List ℕ) → Result (List Span) Fault
with_clock resource clock =
    then_on (spans_of_scope_list clock member.ScopeSpans resource) (λ first.
    then_on (spans_of_scope_list clock member.InstrumentationLibrarySpans resource) (λ others.
    Ok (first ++ others)))

abbrev with_object : Data → Unit {0} → Result (List Span) Fault
with_object resource is = then_on (clock_in resource) (with_clock resource)

pub returns-in_err-add_scopes : goal.returns-in_err-add_scopes
unfolding spans_of_resource
returns-in_err-add_scopes c =
    let fault = c.in_err-add_scopes.field-0.0 in
    let list = c.args.list in
    let resource = c.args.resource.now in
    let old = c.args.spans.now in
    let clock = c.in_ok-clock.clock in
    let p = err_from_is_err_and c.from_residual-in_err-add_scopes.result c.from_residual-in_err-add_scopes.ensures.1 in
    rw (p.1, p.2)
    (fault_of_part fault (spans_of_resource list resource) (λ more. Ok (old ++ more))
    (fault_after fault (item_in list resource) (with_object resource) _ c.in_ok-item_object.ensures
    (fault_after fault (clock_in resource) (with_clock resource) clock c.in_ok-clock.ensures
    (fault_of_part fault (spans_of_scope_list clock member.ScopeSpans resource) (λ first. then_on (spans_of_scope_list clock member.InstrumentationLibrarySpans resource) (λ others. Ok (first ++ others)))
    (fault_of_added fault (spans_of_scope_list clock member.ScopeSpans resource) old c.in_err-add_scopes.ensures)))))

pub returns : goal.returns
unfolding spans_of_resource
returns c =
    let list = c.args.list in
    let resource = c.args.resource.now in
    subst (λ (r : Result (List Span) Fault). IsReadAs (λ (u : Unit {0}). c.add_scopes-2.new.spans) c.add_scopes-2.result r)
    (sym
    (both_lists (item_in list resource) _ (clock_in resource) c.in_ok-clock.clock (λ clock. spans_of_scope_list clock member.ScopeSpans resource)
    (λ clock. spans_of_scope_list clock member.InstrumentationLibrarySpans resource) c.args.spans.now c.add_scopes.new.spans c.in_ok-item_object.ensures c.in_ok-clock.ensures c.in_ok-add_scopes.ensures))
    c.add_scopes-2.ensures
