use Rattle.fleet_summary.proofs.GroupsAdded.{IsGroupsPart-all}
use Rattle.fleet_summary.proofs.groups.Groups.add_each.Goals as goal

pub returns-clause-added : goal.returns-clause-added
returns-clause-added c =
    IsGroupsPart-all c.args.self.now c.args.groups.now.entries c.loop-name.self c.loop-name.name-iterator c.in-None.ensures.steps.0 c.loop-name.invariant.part c.requires.groups
