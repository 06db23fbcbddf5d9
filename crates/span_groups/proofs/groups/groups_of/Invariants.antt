use Rattle.std.proofs.Common.{take}
use Rattle.span_groups.specs.Groups.{IsOfNames}
use Rattle.span_groups.proofs.groups.groups_of.Given as goal

-- of the names so far
abbrev pub invariant-loop-name : goal.invariant-loop-name
invariant-loop-name l = IsOfNames (take l.name-index l.names) l.groups
