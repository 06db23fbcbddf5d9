use Rattle.std.proofs.Common.{◌≡◌, take}
use Rattle.trace_relations.specs.LateEnds.{with_callers_ends}
use Rattle.trace_relations.proofs.late_ends.end_with_callers.Given as goal

-- the ends of the spans so far
abbrev pub invariant-loop-place : goal.invariant-loop-place
invariant-loop-place l = l.intervals ≡ with_callers_ends l.spans l.references (take l.place-index l.order) l.fn.intervals
