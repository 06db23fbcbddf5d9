use Rattle.std.proofs.Common.{◌∙◌}
use Rattle.json_trees.proofs.Holding.{null_told}
use Rattle.json_trees.proofs.tree.Tree.is_null.Goals as goal

pub returns : goal.returns
returns c = c.is_null.ensures c.first.result.1.now ∙ null_told c.first.result.1.now c.first.result.0.now c.args.self.now c.first.ensures
