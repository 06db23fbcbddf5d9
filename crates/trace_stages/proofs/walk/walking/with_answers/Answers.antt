use Rattle.std.proofs.Common.{arith, subst, sym}
use Rattle.std.proofs.lemmas.Grind.{common_steps}
use Rattle.trace_stages.specs.Held.{PlainHolding}
use Rattle.trace_stages.specs.KeptWalk.{Holds}
use Rattle.trace_stages.proofs.Steps.{an_answer, no_answer}
use Rattle.trace_stages.proofs.walk.walking.with_answers.Goals as goal

pub returns-then-is_empty : goal.returns-then-is_empty
returns-then-is_empty c = λ plain h.
    let P : PlainHolding → Type 0 = λ those. Holds c.args.holding those in
    subst P (sym (no_answer c.args.span c.args.called.now plain (grind (arith, common_steps)))) h

pub returns : goal.returns
returns c = λ plain h.
    let P : PlainHolding → Type 0 = λ those. Holds c.answer.new.held those in
    subst P (an_answer c.args.span c.args.called.now plain (grind (arith, common_steps))) (c.in_ok-answer.ensures plain h)
