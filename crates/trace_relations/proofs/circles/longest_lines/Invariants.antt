use Rattle.std.proofs.Common.{◌^◌}
use Rattle.trace_relations.specs.Lines.{AreLines}
use Rattle.trace_relations.proofs.circles.longest_lines.Given as goal

-- lines of as many spans as they were doubled
abbrev pub invariant-loop-power : goal.invariant-loop-power
invariant-loop-power l = AreLines l.intervals l.parents (2 ^ l._power) l.lines.items
