use Rattle.std.proofs.Common.{◌^◌}
use Rattle.trace_relations.specs.Relations.{plain}
use Rattle.trace_stages.specs.BoundLines.{AreLines}
use Rattle.trace_stages.proofs.bounds.whole_lines.Given as goal

-- lines of as many spans as they were doubled
abbrev pub invariant-loop-doubling : goal.invariant-loop-doubling
invariant-loop-doubling l = AreLines (plain l.relations) (2 ^ l._doubling) l.lines.items
