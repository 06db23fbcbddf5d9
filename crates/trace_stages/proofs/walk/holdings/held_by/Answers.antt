use Rattle.std.proofs.Common.{◌∙◌, ap, subst, sym}
use Rattle.std.specs.Prelude.{IfOk, not}
use Rattle.trace_stages.specs.Held.{PlainHolding, looked}
use Rattle.trace_stages.specs.KeptWalk.{Holds}
use Rattle.trace_stages.specs.Walk.{walked}
use Rattle.trace_stages.proofs.Steps.{held_ended, held_open}
use Rattle.trace_stages.proofs.walk.holdings.held_by.Goals as goal

pub returns-then-is_none : goal.returns-then-is_none
returns-then-is_none c =
    let P : PlainHolding → Type 0 = λ plain. Holds c.in_ok-walked.walked plain in
    subst P (sym (held_open c.args.interval.end c.args.span c.args.called.now (walked c.args.span c.args.interval.start c.args.events.now) (c.is_none.ensures ∙ ap not c.if-is_none.true))) c.in_ok-walked.ensures

pub returns : goal.returns
returns c =
    let P : PlainHolding → Type 0 = λ plain. IfOk c.with_answers.result (λ now. Holds now plain) in
    subst P (sym (held_ended c.args.interval.end c.args.span c.args.called.now (walked c.args.span c.args.interval.start c.args.events.now) (c.is_none.ensures ∙ ap not c.if-is_none.false)))
    (c.with_answers.ensures (looked c.args.span (walked c.args.span c.args.interval.start c.args.events.now)) (c.in_ok-held.ensures (walked c.args.span c.args.interval.start c.args.events.now) c.in_ok-walked.ensures))
