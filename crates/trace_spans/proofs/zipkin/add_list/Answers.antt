use Rattle.std.proofs.Common.{List, ◌++◌, Result, Ok, sym, ap, subst, ◌∙◌}
use Rattle.std.proofs.lemmas.Result.{err_from_is_err_and}
use Rattle.trace_spans.specs.declared.fault.Fault.{Fault}
use Rattle.trace_spans.specs.declared.span.Span.{Span}
use Rattle.trace_spans.specs.Members.{then_on}
use Rattle.trace_spans.specs.Reads.{IsReadAs}
use Rattle.trace_spans.specs.Zipkin.{spans_of_items, zipkin_spans}
use Rattle.trace_spans.proofs.Reading.{fault_of_part}
use Rattle.trace_spans.proofs.zipkin.add_list.Goals as goal

pub returns-in_err-halves : goal.returns-in_err-halves
unfolding zipkin_spans
returns-in_err-halves c =
    let p = err_from_is_err_and c.from_residual.result c.from_residual.ensures.1 in
    rw (p.1, p.2) (fault_of_part _ _ _ (fault_of_part _ _ _ c.in_err-halves.ensures))

pub returns : goal.returns
unfolding zipkin_spans
returns c =
    let has = c.in_ok-halves.ensures in
    subst (λ (m : Result (List Span) Fault). IsReadAs (λ _. c.add_items.new.spans) c.add_items.result m)
    (ap (λ items. then_on (spans_of_items has.0 items) (λ more. Ok (c.args.spans.now ++ more))) c.requires ∙ ap (λ r. then_on (then_on r (λ halves. spans_of_items halves c.args.items)) (λ more. Ok (c.args.spans.now ++ more))) (sym has.1))
    (c.add_items.ensures has.0 has.2)
