use Rattle.trace_stages.proofs.Firsts.{AreFirstFrom}
use Rattle.trace_stages.proofs.fates.firsts_of.Given as goal

-- the first place of a name is that so far, or in what is left
abbrev pub invariant-loop-place : goal.invariant-loop-place
invariant-loop-place l = AreFirstFrom l.spans l.place l.firsts
