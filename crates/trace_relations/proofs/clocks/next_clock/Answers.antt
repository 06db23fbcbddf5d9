use Rattle.std.proofs.Common.{◌∙◌, ap, rules}
use Rattle.std.specs.Prelude.{unwrap_or}
use Rattle.std.specs.List.{position_from}
use Rattle.trace_relations.specs.Clocks.{same_clock}
use Rattle.trace_relations.proofs.ClockFinding.{known_alike, next_is}
use Rattle.trace_relations.proofs.clocks.next_clock.Goals as goal

pub returns-in-Some-clause-clock : goal.returns-in-Some-clause-clock
returns-in-Some-clause-clock c = λ all rest is are has. (c.in-Some.ensures all are).0

pub returns-in-Some-clause-known : goal.returns-in-Some-clause-known
returns-in-Some-clause-known c = λ all are has. known_alike c.args.known.now c.args.before.now c.args.span.now has (c.in-Some.ensures all are).1

pub returns-in_ok-clock-in-None-clause-clock : goal.returns-in_ok-clock-in-None-clause-clock
returns-in_ok-clock-in-None-clause-clock c = λ all rest is are has. next_is all c.args.before.now rest c.args.span.now c.in_ok-clock-in-None.clock is (c.in_ok-clock-in-None.ensures.found c.args.before.now has (search rules) ∙ ap (λ n. unwrap_or (position_from (same_clock c.args.span.now) 0 c.args.before.now) n) (search rules))

pub returns-in_ok-clock-in-None-clause-known : goal.returns-in_ok-clock-in-None-clause-known
returns-in_ok-clock-in-None-clause-known c = λ all are has. c.in_ok-clock-in-None.ensures.known c.args.before.now has (search rules)
