use Rattle.std.proofs.Common.{Some, ap, ◌∙◌, sym}
use Rattle.serde_json.specs.Data.{Items}
use Rattle.json_trees.proofs.Holding.{array_tail}
use Rattle.json_trees.proofs.tree.Tree.as_array.Goals as goal

pub of_nodes-requires : goal.of_nodes-requires
of_nodes-requires c = (array_tail c.self.inside.texts.now c.self.inside.nodes.now c.args.self.now c.self.invariant c.self.view_is (sym c.is_array.ensures ∙ c.if-is_array.true)).0

pub returns-then-is_array : goal.returns-then-is_array
returns-then-is_array c =
    ap (λ (ds : Items). Some ds) c.of_nodes.ensures
    ∙ (array_tail c.self.inside.texts.now c.self.inside.nodes.now c.args.self.now c.self.invariant c.self.view_is (sym c.is_array.ensures ∙ c.if-is_array.true)).1
