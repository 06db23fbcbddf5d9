use Rattle.std.proofs.Common.{◌∙◌}
use Rattle.json_trees.proofs.Holding.{number_told}
use Rattle.json_trees.proofs.tree.Tree.as_number.Goals as goal

pub returns : goal.returns
returns c = c.as_number.ensures ∙ number_told c.first.result.1.now c.first.result.0.now c.args.self.now c.first.ensures
