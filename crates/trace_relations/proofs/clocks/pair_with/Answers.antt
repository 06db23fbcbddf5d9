use Rattle.std.proofs.Common.{[], ap, sym, ◌∙◌, cond}
use Rattle.trace_relations.specs.Clocks.{pair_between}
use Rattle.trace_relations.proofs.ClockFinding.{clocks_differ, clocks_same}
use Rattle.trace_relations.proofs.clocks.pair_with.Goals as goal

pub returns-then-caller_clock-clock-clause-said : goal.returns-then-caller_clock-clock-clause-said
returns-then-caller_clock-clock-clause-said c = λ spans at other is also first second.
    sym (ap (λ b. cond b [] (pair_between spans c.args.caller.now c.args.span.now c.args.caller.now.start c.args.span.now.start)) (clocks_same spans at other c.args.caller.now c.args.span.now is also (sym first ∙ c.if-caller_clock-clock.true ∙ second)))

pub returns-else-caller_clock-clock-clause-said : goal.returns-else-caller_clock-clock-clause-said
returns-else-caller_clock-clock-clause-said c = λ spans at other is also first second.
    c.pair_said.ensures.said spans first second
    ∙ sym (ap (λ b. cond b [] (pair_between spans c.args.caller.now c.args.span.now c.args.caller.now.start c.args.span.now.start)) (clocks_differ spans c.args.caller.now c.args.span.now (λ e. c.if-caller_clock-clock.false (first ∙ e ∙ sym second))))
