use Rattle.std.proofs.Common.{List, ap, map, subst, ◌∙◌}
use Rattle.std.proofs.lemmas.Result.{err_from_is_err_and}
use Rattle.trace_spans.specs.declared.summary.Summary.{Summary}
use Rattle.trace_spans.specs.Listing.{AreByStart}
use Rattle.trace_spans.specs.Summaries.{summary_of}
use Rattle.trace_spans.proofs.listing.list_traces.Goals as goal

pub returns-in_err-traces : goal.returns-in_err-traces
returns-in_err-traces c =
    let p = err_from_is_err_and c.from_residual.result c.from_residual.ensures.1 in
    rw (p.1, p.2) c.in_err-traces.ensures

pub returns : goal.returns
returns c =
    let traces = c.in_ok-traces.traces in
    (traces.items, c.in_ok-traces.ensures, subst (λ (all : List Summary). AreByStart all c.in_ok-listed.listed.items) (c.in_ok-summaries.ensures ∙ ap (map summary_of) c.as_slice.ensures.value) c.in_ok-listed.ensures)
