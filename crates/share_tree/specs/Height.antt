-- The heights of a tree.
use Rattle.std.specs.Prelude.{ℕ, ◌≤◌, List, [], length}
use Rattle.share_tree.specs.declared.tree.Tree.{Tree}
use Rattle.share_tree.specs.declared.tree.Tree.TheVariants.{Empty, Leaf, Low, High, Top}

module _ {T : Type 0} where
  -- the items of a tree
  abbrev pub items_of : Tree T → List T
  items_of Empty = []
  items_of (Leaf root) = root
  items_of (Low root) = root
  items_of (High root) = root
  items_of (Top root) = root

  -- the fewest items of a tree of this height
  abbrev pub least_of : Tree T → ℕ
  least_of Empty = 0
  least_of (Leaf _) = 1
  least_of (Low _) = 17
  least_of (High _) = 257
  least_of (Top _) = 4097

  -- how many items a tree of this height has room for
  abbrev pub room_of : Tree T → ℕ
  room_of Empty = 0
  room_of (Leaf _) = 16
  room_of (Low _) = 256
  room_of (High _) = 4096
  room_of (Top _) = 65536

  -- the tree has the lowest height that has room for its items
  pub record HasHeight (tree : Tree T) : Type 0 where
    pub least : least_of tree ≤ length (items_of tree)
    pub room : length (items_of tree) ≤ room_of tree
