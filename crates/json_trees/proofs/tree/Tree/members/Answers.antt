use Rattle.std.proofs.Common.{ap, ◌∙◌, sym}
use Rattle.serde_json.specs.Data.{object, no_members}
use Rattle.json_trees.specs.Named.{put_all}
use Rattle.json_trees.proofs.Holding.{object_tail}
use Rattle.json_trees.proofs.tree.Tree.members.Goals as goal

pub of_nodes-requires : goal.of_nodes-requires
of_nodes-requires c = (object_tail c.self.inside.texts.now c.self.inside.nodes.now c.args.self.now c.self.invariant c.self.view_is (sym c.is_object.ensures ∙ c.if-is_object.true)).0

pub returns-then-is_object : goal.returns-then-is_object
returns-then-is_object c =
    (object_tail c.self.inside.texts.now c.self.inside.nodes.now c.args.self.now c.self.invariant c.self.view_is (sym c.is_object.ensures ∙ c.if-is_object.true)).1
    ∙ ap (λ ps. object (put_all ps no_members)) (sym c.of_nodes.ensures)
