use Rattle.std.proofs.Common.{◌∙◌}
use Rattle.json_trees.proofs.Holding.{object_told}
use Rattle.json_trees.proofs.tree.Tree.is_object.Goals as goal

pub returns : goal.returns
returns c = c.is_object.ensures c.first.result.1.now ∙ object_told c.first.result.1.now c.first.result.0.now c.args.self.now c.first.ensures
