use Rattle.fleet_summary.proofs.SummaryLaws.{summary-append, summary-order, summary-split}
use Rattle.fleet_summary.proofs.laws.each_split_is_the_whole.Goals as goal

pub returns-clause-joins : goal.returns-clause-joins
returns-clause-joins c = summary-append

pub returns-clause-order : goal.returns-clause-order
returns-clause-order c = summary-order

pub returns-clause-split : goal.returns-clause-split
returns-clause-split c = summary-split
