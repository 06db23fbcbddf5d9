use Rattle.std.proofs.Common.{Bool, cond, Some, None, sym, ap, subst, ◌∙◌}
use Rattle.std.proofs.lemmas.Result.{err_from_is_err_and}
use Rattle.trace_spans.specs.Formats.{added}
use Rattle.trace_spans.specs.Otlp.{spans_of_list, told_by}
use Rattle.trace_spans.specs.Reads.{IsFault}
use Rattle.trace_spans.proofs.Formatted.{some_added, some_refused}
use Rattle.trace_spans.proofs.otlp.add_listed.Goals as goal

pub returns-in_err-add_list : goal.returns-in_err-add_list
unfolding told_by
returns-in_err-add_list c =
    let p = err_from_is_err_and c.from_residual.result c.from_residual.ensures.1 in
    rw (p.1, p.2) (subst (λ (b : Bool). IsFault c.in_err-add_list.field-0.0 (added (cond b (Some (spans_of_list c.args.list c.args.text.now)) None) c.args.spans.now)) c.if-not-has.ensures (some_refused c.in_err-add_list.field-0.0 _ c.args.spans.now c.in_err-add_list.ensures))

pub returns : goal.returns
unfolding told_by
returns c =
    ap (λ b. added (cond b (Some (spans_of_list c.args.list c.args.text.now)) None) c.args.spans.now) (sym c.if-not-has.ensures)
    ∙ some_added _ c.args.spans.now c.add_list.new.spans c.in_ok-add_list.ensures
