-- Nodes that were added to a list of nodes.
use Rattle.std.specs.Prelude.{◌≡◌, List, ◌++◌, map}
use Rattle.json_trees.specs.declared.node.Node.{Node}
use Rattle.json_trees.specs.declared.nodes.Nodes.{Nodes}
use Rattle.json_trees.specs.Cells.{Cell, cell, Texts}

-- texts that begin with these
abbrev pub GoesOn : Texts → Texts → Type 0
GoesOn ts all = (more : Texts) × (all ≡ ts ++ more)

-- a list of nodes that has more nodes than the old one, which mean these cells, whatever texts come after its own
abbrev pub AddedIn : Nodes → Texts → List Node → List Cell → Type 0
AddedIn old texts list cs =
    GoesOn old.texts.items texts × ((all : Texts) → GoesOn texts all → map (cell all) list ≡ map (cell all) old.list.items ++ cs)

abbrev pub Added : Nodes → Nodes → List Cell → Type 0
Added old new cs = AddedIn old new.texts.items new.list.items cs
