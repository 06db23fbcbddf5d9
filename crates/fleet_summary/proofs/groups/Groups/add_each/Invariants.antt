use Rattle.fleet_summary.proofs.GroupsAdded.{IsGroupsPart}
use Rattle.fleet_summary.proofs.groups.Groups.add_each.Given as goal

abbrev pub invariant-loop-name : goal.invariant-loop-name
invariant-loop-name l = record {
  can : (goal.iterator-loop-name).can_next l.name-iterator;
  finite : (goal.iterator-loop-name).is_finite l.name-iterator;
  part : IsGroupsPart l.initial.self l.groups.entries l.self l.name-iterator;
}
