use Rattle.std.proofs.Common.{◌-◌, ◌≤◌, max}
use Rattle.timeline.proofs.Decades.{IsReached}
use Rattle.timeline.proofs.axis.round_step.Given as goal

-- a power of ten, before which no round step serves
abbrev pub invariant-loop-step : goal.invariant-loop-step
invariant-loop-step l = (l.power ≤ max 1 l.span) × IsReached l.span l.most l.power

abbrev pub decreases-loop-step : goal.decreases-loop-step
decreases-loop-step l = max 1 l.span - l.power
