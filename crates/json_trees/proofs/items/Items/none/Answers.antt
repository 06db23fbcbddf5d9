use Rattle.std.proofs.Common.{[]}
use Rattle.json_trees.proofs.Holding.{none_left}
use Rattle.json_trees.proofs.items.Items.none.Goals as goal

pub invariant_of-result : goal.invariant_of-result
invariant_of-result c = none_left []
