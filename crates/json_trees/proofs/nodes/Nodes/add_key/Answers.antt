use Rattle.std.proofs.Common.{◌++◌, ◌∷◌, [], ap, ◌∙◌}
use Rattle.json_trees.specs.Cells.{key_cell, text_at}
use Rattle.json_trees.specs.declared.node.Node.TheVariants as node
use Rattle.json_trees.proofs.Building.{text_added}
use Rattle.json_trees.proofs.nodes.Nodes.add_key.Goals as goal

pub returns-clause-ok : goal.returns-clause-ok
returns-clause-ok c =
    let told = c.in_ok-place.ensures in
    let n = node.Key c.in_ok-place.place in
    text_added c.args.self.now c.push_with_text.new.self n c.args.name (key_cell c.args.name.now)
    (λ ts e. ap (λ place. key_cell (text_at ts place)) told.place ∙ ap key_cell e)
    (c.push_with_text.ensures.texts ∙ ap (λ ts. ts ++ c.args.name ∷ []) told.texts)
    (c.push_with_text.ensures.list ∙ ap (λ ns. ns ++ n ∷ []) told.list)
