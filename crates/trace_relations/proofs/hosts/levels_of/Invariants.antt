use Rattle.std.proofs.Common.{◌≡◌, ◌^◌, length}
use Rattle.trace_relations.specs.Lines.{AreLevels, AreLines}
use Rattle.trace_relations.proofs.hosts.levels_of.Given as goal

-- the levels so far, and the next
abbrev pub invariant-loop-power : goal.invariant-loop-power
invariant-loop-power l = (length l.levels.items ≡ l._power) × AreLevels l.intervals l.parents l.levels.items × AreLines l.intervals l.parents (2 ^ l._power) l.lines.items
