use Rattle.std.proofs.Common.{rules}
use Rattle.trace_relations.proofs.Grouped.{no_grouping}
use Rattle.trace_relations.proofs.grouping.Grouping.new.Goals as goal

pub returns-clause-grouping : goal.returns-clause-grouping
returns-clause-grouping c = λ keys. no_grouping keys _ _ _ (λ key. search rules) c.new-2.ensures.items
