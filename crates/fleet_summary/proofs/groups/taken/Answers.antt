use Rattle.fleet_summary.proofs.GroupsAdded.{IsGroups-taken}
use Rattle.fleet_summary.proofs.groups.taken.Goals as goal

pub returns-in-Some-clause-groups : goal.returns-in-Some-clause-groups
returns-in-Some-clause-groups c = IsGroups-taken c.args.groups.now.entries c.remove.new.self.entries c.args.name.now c.requires c.in-Some.ensures.entries c.in-Some.ensures.ordered
