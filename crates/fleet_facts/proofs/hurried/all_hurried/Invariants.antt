use Rattle.fleet_facts.proofs.Hurrying.{AreHurried}
use Rattle.fleet_facts.proofs.hurried.all_hurried.Given as goal

abbrev pub invariant-loop-place : goal.invariant-loop-place
invariant-loop-place g l = AreHurried l.version.graph l.stages l.group l.place l.hurried.items
