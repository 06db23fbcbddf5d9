use Rattle.fleet_summary.proofs.SummaryLaws.{join-associative, join-none, join-order}
use Rattle.fleet_summary.proofs.laws.each_order_of_joins_is_one.Goals as goal

pub returns-clause-order : goal.returns-clause-order
returns-clause-order c = join-order

pub returns-clause-groups : goal.returns-clause-groups
returns-clause-groups c = join-associative

pub returns-clause-none : goal.returns-clause-none
returns-clause-none c = join-none
