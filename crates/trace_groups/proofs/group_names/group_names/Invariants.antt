use Rattle.std.proofs.Common.{◌≡◌, take}
use Rattle.std.specs.Prelude.{map}
use Rattle.trace_groups.specs.GroupNames.{group_name}
use Rattle.trace_groups.proofs.group_names.group_names.Given as goal

abbrev pub invariant-loop-span : goal.invariant-loop-span
invariant-loop-span l = l.names.items ≡ map (group_name l.by) (take l.span-index l.spans)
