use Rattle.std.proofs.Common.{take}
use Rattle.trace_stages.specs.Numbers.{AreCounts, AreNumbers}
use Rattle.trace_stages.proofs.span_names.numbers.numbers_of.Given as goal

pub record Numbering (Counted Numbered : Type 0) : Type 0 where
  pub counted : Counted
  pub numbered : Numbered

-- the spans so far are counted, and have their numbers
abbrev pub invariant-loop-place : goal.invariant-loop-place
invariant-loop-place l = Numbering
    (AreCounts l.counts l.bases (take l.place-index l.order))
    (AreNumbers l.numbers.items l.bases (take l.place-index l.order))
