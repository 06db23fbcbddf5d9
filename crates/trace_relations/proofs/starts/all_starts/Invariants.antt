use Rattle.std.proofs.Common.{◌≡◌, ◌++◌, drop}
use Rattle.trace_relations.specs.ByStart.{all_starts, starts_from}
use Rattle.trace_relations.proofs.starts.all_starts.Given as goal

-- those so far, and those of the spans that are left
abbrev pub invariant-loop-place : goal.invariant-loop-place
invariant-loop-place l = all_starts l.intervals ≡ l.starts.items ++ starts_from l.place (drop l.place l.intervals)
