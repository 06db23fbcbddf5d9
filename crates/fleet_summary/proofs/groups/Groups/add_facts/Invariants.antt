use Rattle.fleet_summary.specs.Groups.{IsGroups}
use Rattle.fleet_summary.proofs.GroupsAdded.{IsFactsPart}
use Rattle.fleet_summary.proofs.groups.Groups.add_facts.Given as goal

abbrev pub invariant-loop-group : goal.invariant-loop-group
invariant-loop-group l = record {
  part : IsFactsPart l.time l.facts l.initial.self l.self l.group-index;
  groups : IsGroups l.self;
}
