use Rattle.std.proofs.Common.{◌≡◌, drop, length}
use Rattle.std.specs.List.{zip}
use Rattle.trace_relations.specs.Ticks.{earliest_from, earliest_time}
use Rattle.trace_relations.proofs.ticks.earliest_time.Given as goal

-- the earliest so far, and of the spans that are left
abbrev pub invariant-loop-span : goal.invariant-loop-span
invariant-loop-span l = earliest_time l.spans l.times ≡ earliest_from l.earliest (drop (length l.yielded) (zip l.spans l.times))
