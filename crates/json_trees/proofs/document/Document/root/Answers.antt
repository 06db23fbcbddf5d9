use Rattle.std.proofs.Common.{◌∙◌, ap₂}
use Rattle.json_trees.specs.Cells.{data_at}
use Rattle.json_trees.proofs.document.Document.root.Goals as goal

pub returns : goal.returns
returns c = c.of_nodes.ensures ∙ ap₂ data_at c.as_slice-2.ensures.value c.as_slice.ensures.value ∙ c.self.view_is
