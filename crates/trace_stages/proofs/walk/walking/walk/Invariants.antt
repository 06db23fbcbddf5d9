use Rattle.std.proofs.Common.{take}
use Rattle.trace_stages.specs.KeptWalk.{Holds}
use Rattle.trace_stages.specs.Walk.{walked}
use Rattle.trace_stages.proofs.walk.walking.walk.Given as goal

-- what the span has after the events so far
abbrev pub invariant-loop-event : goal.invariant-loop-event
invariant-loop-event l = Holds l.holding (walked l.span l.start (take l.event-index l.events))
