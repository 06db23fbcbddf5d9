use Rattle.fleet_text.proofs.Joins.{join-order, join-split}
use Rattle.fleet_text.proofs.laws.each_join_is_the_whole.Goals as goal

pub returns-clause-order : goal.returns-clause-order
returns-clause-order c = join-order

pub returns-clause-split : goal.returns-clause-split
returns-clause-split c = join-split
