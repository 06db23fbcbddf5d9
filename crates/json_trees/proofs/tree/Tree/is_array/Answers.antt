use Rattle.std.proofs.Common.{◌∙◌}
use Rattle.json_trees.proofs.Holding.{array_told}
use Rattle.json_trees.proofs.tree.Tree.is_array.Goals as goal

pub returns : goal.returns
returns c = c.is_array.ensures c.first.result.1.now ∙ array_told c.first.result.1.now c.first.result.0.now c.args.self.now c.first.ensures
