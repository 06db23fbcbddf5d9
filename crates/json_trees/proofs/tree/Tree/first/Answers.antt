use Rattle.std.proofs.Common.{get_or}
use Rattle.json_trees.specs.declared.node.Node.TheVariants as node
use Rattle.json_trees.proofs.Holding.{node_read, tells}
use Rattle.json_trees.proofs.tree.Tree.first.Goals as goal

pub returns : goal.returns
returns c =
    let nodes = c.self.inside.nodes.now in
    tells c.self.inside.texts.now nodes (get_or nodes 0 node.Null) c.args.self.now c.self.invariant c.self.view_is (node_read nodes 0 node.Null)
