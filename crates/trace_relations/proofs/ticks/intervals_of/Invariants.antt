use Rattle.std.proofs.Common.{◌≡◌, ◌++◌, drop, length, Ok}
use Rattle.std.specs.List.{zip}
use Rattle.trace_relations.specs.Ticks.{intervals_from, intervals_of, then_on, too_late}
use Rattle.trace_relations.proofs.ticks.intervals_of.Given as goal

-- the ticks so far, and those of the spans that are left
abbrev pub invariant-loop-span : goal.invariant-loop-span
invariant-loop-span l = intervals_of l.unit l.origin l.spans l.times ≡ then_on (intervals_from l.unit l.origin (too_late l.origin l.spans l.times) (drop (length l.yielded) (zip l.spans l.times))) (λ rest. Ok (l.intervals.items ++ rest))
