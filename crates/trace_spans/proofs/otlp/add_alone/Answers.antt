use Rattle.std.proofs.Common.{Bool, cond, Some, None, sym, ap, subst, ◌∙◌}
use Rattle.std.proofs.lemmas.Result.{err_from_is_err_and}
use Rattle.trace_spans.specs.declared.member.Member.TheVariants as member
use Rattle.trace_spans.specs.Formats.{added}
use Rattle.trace_spans.specs.Otlp.{spans_of_resource, told_alone}
use Rattle.trace_spans.specs.Reads.{IsFault}
use Rattle.trace_spans.proofs.Formatted.{some_added, some_refused}
use Rattle.trace_spans.proofs.otlp.add_alone.Goals as goal

pub returns-in_err-add_resource : goal.returns-in_err-add_resource
unfolding told_alone
returns-in_err-add_resource c =
    let p = err_from_is_err_and c.from_residual.result c.from_residual.ensures.1 in
    rw (p.1, p.2) (subst (λ (b : Bool). IsFault c.in_err-add_resource.field-0.0 (added (cond b (Some (spans_of_resource member.ResourceSpans c.args.text.now)) None) c.args.spans.now)) c.if-not-has_scopes.ensures (some_refused c.in_err-add_resource.field-0.0 _ c.args.spans.now c.in_err-add_resource.ensures))

pub returns : goal.returns
unfolding told_alone
returns c =
    ap (λ b. added (cond b (Some (spans_of_resource member.ResourceSpans c.args.text.now)) None) c.args.spans.now) (sym c.if-not-has_scopes.ensures)
    ∙ some_added _ c.args.spans.now c.add_resource.new.spans c.in_ok-add_resource.ensures
