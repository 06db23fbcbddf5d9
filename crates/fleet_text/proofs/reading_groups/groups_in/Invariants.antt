use Rattle.std.proofs.Common.{take}
use Rattle.fleet_summary.specs.Groups.{IsGroups}
use Rattle.fleet_text.specs.Says.{SaysGroup}
use Rattle.fleet_text.proofs.ReadLists.{AreSaid}
use Rattle.fleet_text.proofs.reading_groups.groups_in.Given as goal

abbrev pub invariant-loop-group : goal.invariant-loop-group
invariant-loop-group l = record {
  sound : IsGroups l.groups;
  said : AreSaid SaysGroup (take l.group-index l.values) l.groups;
}
