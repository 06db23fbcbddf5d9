use Rattle.std.proofs.Common.{take}
use Rattle.trace_relations.specs.KeptCalled.{AreCallers, called_with}
use Rattle.trace_relations.proofs.given_up.callers_of.Given as goal

-- what is known by the calls so far
abbrev pub invariant-loop-place : goal.invariant-loop-place
invariant-loop-place l = AreCallers (called_with l.called) (take l.place-index l.order) l.callers
