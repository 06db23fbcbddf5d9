use Rattle.std.proofs.Common.{List, Bool, Option, Result, sym, subst, ◌∙◌}
use Rattle.std.specs.Option.{option_or}
use Rattle.std.proofs.lemmas.Result.{err_from_is_err_and}
use Rattle.serde_json.specs.Data.{Data}
use Rattle.trace_spans.specs.declared.fault.Fault.{Fault}
use Rattle.trace_spans.specs.declared.member.Member.TheVariants as member
use Rattle.trace_spans.specs.declared.span.Span.{Span}
use Rattle.trace_spans.specs.Otlp.{otlp_told, told_alone, told_by, told_within}
use Rattle.trace_spans.specs.Reads.{IsFault, IsReadAs}
use Rattle.trace_spans.proofs.Formatted.{fault_of_first, of_first, of_second}
use Rattle.trace_spans.proofs.otlp.OtlpFormat.add_spans.Goals as goal

-- what is left after each of the forms
abbrev after_result : Data → Option (Result (List Span) Fault)
after_result text = option_or (told_within member.Trace text) (told_alone text)

abbrev after_batches : Data → Option (Result (List Span) Fault)
after_batches text = option_or (told_within member.Result text) (after_result text)

abbrev after_export : Data → Option (Result (List Span) Fault)
after_export text = option_or (told_by member.Batches text) (after_batches text)

pub returns-in_err-add_listed : goal.returns-in_err-add_listed
unfolding otlp_told
returns-in_err-add_listed c =
    let text = c.args.text.now in
    let p = err_from_is_err_and c.from_residual.result c.from_residual.ensures.1 in
    rw (p.1, p.2) (fault_of_first _ (told_by member.ResourceSpans text) (after_export text) c.args.spans.now c.in_err-add_listed.ensures)

pub returns-then-branch : goal.returns-then-branch
unfolding otlp_told
returns-then-branch c =
    let text = c.args.text.now in
    of_first _ (told_by member.ResourceSpans text) (after_export text) c.args.spans.now c.add_listed.new.spans c.if-branch.true c.in_ok-add_listed.ensures

pub returns-in_err-add_listed-2 : goal.returns-in_err-add_listed-2
unfolding otlp_told
returns-in_err-add_listed-2 c =
    let text = c.args.text.now in
    let past = of_second _ (told_by member.ResourceSpans text) (after_export text) c.args.spans.now c.add_listed.new.spans c.if-branch.false c.in_ok-add_listed.ensures in
    let p = err_from_is_err_and c.from_residual-in_err-add_listed-2.result c.from_residual-in_err-add_listed-2.ensures.1 in
    rw (p.1, p.2) (subst (λ (r : Result (Bool × List Span) Fault). IsFault c.in_err-add_listed-2.field-0.0 r) (sym past) (fault_of_first _ (told_by member.Batches text) (after_batches text) c.add_listed.new.spans c.in_err-add_listed-2.ensures))

pub returns-then-branch-2 : goal.returns-then-branch-2
unfolding otlp_told
returns-then-branch-2 c =
    let text = c.args.text.now in
    of_second _ (told_by member.ResourceSpans text) (after_export text) c.args.spans.now c.add_listed.new.spans c.if-branch.false c.in_ok-add_listed.ensures
    ∙ of_first _ (told_by member.Batches text) (after_batches text) c.add_listed.new.spans c.add_listed-2.new.spans c.if-branch-2.true c.in_ok-add_listed-2.ensures

pub returns-in_err-add_wrapped : goal.returns-in_err-add_wrapped
unfolding otlp_told
returns-in_err-add_wrapped c =
    let text = c.args.text.now in
    let past =
    of_second _ (told_by member.ResourceSpans text) (after_export text) c.args.spans.now c.add_listed.new.spans c.if-branch.false c.in_ok-add_listed.ensures
    ∙ of_second _ (told_by member.Batches text) (after_batches text) c.add_listed.new.spans c.add_listed-2.new.spans c.if-branch-2.false c.in_ok-add_listed-2.ensures in
    let p = err_from_is_err_and c.from_residual-in_err-add_wrapped.result c.from_residual-in_err-add_wrapped.ensures.1 in
    rw (p.1, p.2) (subst (λ (r : Result (Bool × List Span) Fault). IsFault c.in_err-add_wrapped.field-0.0 r) (sym past) (fault_of_first _ (told_within member.Result text) (after_result text) c.add_listed-2.new.spans c.in_err-add_wrapped.ensures))

pub returns-then-branch-3 : goal.returns-then-branch-3
unfolding otlp_told
returns-then-branch-3 c =
    let text = c.args.text.now in
    of_second _ (told_by member.ResourceSpans text) (after_export text) c.args.spans.now c.add_listed.new.spans c.if-branch.false c.in_ok-add_listed.ensures
    ∙ of_second _ (told_by member.Batches text) (after_batches text) c.add_listed.new.spans c.add_listed-2.new.spans c.if-branch-2.false c.in_ok-add_listed-2.ensures
    ∙ of_first _ (told_within member.Result text) (after_result text) c.add_listed-2.new.spans c.add_wrapped.new.spans c.if-branch-3.true c.in_ok-add_wrapped.ensures

pub returns-in_err-add_wrapped-2 : goal.returns-in_err-add_wrapped-2
unfolding otlp_told
returns-in_err-add_wrapped-2 c =
    let text = c.args.text.now in
    let past =
    of_second _ (told_by member.ResourceSpans text) (after_export text) c.args.spans.now c.add_listed.new.spans c.if-branch.false c.in_ok-add_listed.ensures
    ∙ of_second _ (told_by member.Batches text) (after_batches text) c.add_listed.new.spans c.add_listed-2.new.spans c.if-branch-2.false c.in_ok-add_listed-2.ensures
    ∙ of_second _ (told_within member.Result text) (after_result text) c.add_listed-2.new.spans c.add_wrapped.new.spans c.if-branch-3.false c.in_ok-add_wrapped.ensures in
    let p = err_from_is_err_and c.from_residual-in_err-add_wrapped-2.result c.from_residual-in_err-add_wrapped-2.ensures.1 in
    rw (p.1, p.2) (subst (λ (r : Result (Bool × List Span) Fault). IsFault c.in_err-add_wrapped-2.field-0.0 r) (sym past) (fault_of_first _ (told_within member.Trace text) (told_alone text) c.add_wrapped.new.spans c.in_err-add_wrapped-2.ensures))

pub returns-then-branch-4 : goal.returns-then-branch-4
unfolding otlp_told
returns-then-branch-4 c =
    let text = c.args.text.now in
    of_second _ (told_by member.ResourceSpans text) (after_export text) c.args.spans.now c.add_listed.new.spans c.if-branch.false c.in_ok-add_listed.ensures
    ∙ of_second _ (told_by member.Batches text) (after_batches text) c.add_listed.new.spans c.add_listed-2.new.spans c.if-branch-2.false c.in_ok-add_listed-2.ensures
    ∙ of_second _ (told_within member.Result text) (after_result text) c.add_listed-2.new.spans c.add_wrapped.new.spans c.if-branch-3.false c.in_ok-add_wrapped.ensures
    ∙ of_first _ (told_within member.Trace text) (told_alone text) c.add_wrapped.new.spans c.add_wrapped-2.new.spans c.if-branch-4.true c.in_ok-add_wrapped-2.ensures

pub returns : goal.returns
unfolding otlp_told
returns c =
    let text = c.args.text.now in
    let past =
    of_second _ (told_by member.ResourceSpans text) (after_export text) c.args.spans.now c.add_listed.new.spans c.if-branch.false c.in_ok-add_listed.ensures
    ∙ of_second _ (told_by member.Batches text) (after_batches text) c.add_listed.new.spans c.add_listed-2.new.spans c.if-branch-2.false c.in_ok-add_listed-2.ensures
    ∙ of_second _ (told_within member.Result text) (after_result text) c.add_listed-2.new.spans c.add_wrapped.new.spans c.if-branch-3.false c.in_ok-add_wrapped.ensures
    ∙ of_second _ (told_within member.Trace text) (told_alone text) c.add_wrapped.new.spans c.add_wrapped-2.new.spans c.if-branch-4.false c.in_ok-add_wrapped-2.ensures in
    subst (λ (r : Result (Bool × List Span) Fault). IsReadAs (λ is. (is, c.add_alone.new.spans)) c.add_alone.result r) (sym past) c.add_alone.ensures
