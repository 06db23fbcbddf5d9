use Rattle.std.proofs.Common.{◌≡◌, drop, length}
use Rattle.std.specs.Prelude.{find}
use Rattle.std.specs.List.{zip}
use Rattle.trace_relations.specs.Ticks.{is_first}
use Rattle.trace_relations.proofs.ticks.first_span.Given as goal

-- the first is none of those so far
abbrev pub invariant-loop-other : goal.invariant-loop-other
invariant-loop-other l = find (is_first l.origin) (zip l.spans l.times) ≡ find (is_first l.origin) (drop (length l.yielded) (zip l.spans l.times))
