use Rattle.std.proofs.Common.{◌≡◌, ◌++◌, pos, drop}
use Rattle.trace_relations.specs.Times.{times_from, times_of}
use Rattle.trace_relations.proofs.placing.times_as_told.Given as goal

-- those so far, and those of the spans that are left
abbrev pub invariant-loop-span : goal.invariant-loop-span
invariant-loop-span l = times_of (λ place. pos 0) l.spans ≡ l.times.items ++ times_from (λ place. pos 0) l.span-index (drop l.span-index l.spans)
