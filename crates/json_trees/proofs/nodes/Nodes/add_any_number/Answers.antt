use Rattle.std.proofs.Common.{◌++◌, ◌∷◌, [], is_some, sym, ap, ◌∙◌}
use Rattle.serde_json.specs.Read.{number_of}
use Rattle.json_trees.specs.Cells.{number_cell, text_at}
use Rattle.json_trees.specs.declared.node.Node.TheVariants as node
use Rattle.json_trees.proofs.Building.{text_added}
use Rattle.json_trees.proofs.nodes.Nodes.add_any_number.Goals as goal

pub returns-clause-ok : goal.returns-clause-ok
returns-clause-ok c =
    let told = c.in_ok-place.ensures in
    let n = node.Number c.in_ok-place.place in (
      ap is_some (sym c.in-Some.ensures),
      text_added c.args.self.now c.push_with_text.new.self n c.args.text (number_cell (number_of c.args.text.now))
          (λ ts e. ap (λ place. number_cell (number_of (text_at ts place))) told.place ∙ ap (λ s. number_cell (number_of s)) e)
          (c.push_with_text.ensures.texts ∙ ap (λ ts. ts ++ c.args.text ∷ []) told.texts)
          (c.push_with_text.ensures.list ∙ ap (λ ns. ns ++ n ∷ []) told.list),
    )
