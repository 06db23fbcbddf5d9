-- The nodes of a value, one after the other, and the value that they are.
use Rattle.std.specs.Prelude.{◌≡◌, ℕ, zero, suc, ◌+◌, ◌*◌, Bool, List, [], ◌∷◌, ◌++◌, length, map, take, drop, codes, Option, Some, None}
use Rattle.std.specs.Borrow.{Bor}
use Rattle.json.specs.Json as json
use Rattle.serde_json.specs.Data.{Num, unsigned, Data, null, boolean, number, string, array, object, Items, no_items, item, no_members}
use Rattle.serde_json.specs.Find.{of_integer}
use Rattle.serde_json.specs.Read.{number_of}
use Rattle.json_trees.specs.Named.{put_all}
use Rattle.json_trees.specs.Valued.{HasData, HasItems, HasPairs}
use Rattle.json_trees.specs.declared.node.Node.{Node}
use Rattle.json_trees.specs.declared.node.Node.TheVariants as node

-- what a clause sees of a node
pub data Cell : Type 0 where
  null_cell : Cell
  boolean_cell : Bool → Cell
  number_cell : Option Num → Cell
  string_cell : List ℕ → Cell
  key_cell : List ℕ → Cell
  -- how many nodes the array takes
  array_cell : ℕ → Cell
  -- the same of an object
  object_cell : ℕ → Cell

-- the texts that nodes have the places of
abbrev pub Texts : Type 0
Texts = List (Bor (List ℕ))

-- past the last place the empty text
abbrev pub text_at : Texts → ℕ → List ℕ
text_at [] n = []
text_at (t ∷ ts) zero = t.now
text_at (t ∷ ts) (suc n) = text_at ts n

abbrev pub cell : Texts → Node → Cell
cell ts node.Null = null_cell
cell ts (node.Bool b) = boolean_cell b
cell ts (node.Whole n) = number_cell (Some (unsigned n))
cell ts (node.BelowZero z) = number_cell (Some (of_integer z))
cell ts node.MinusZero = number_cell (number_of (codes "-0"))
cell ts (node.Number place) = number_cell (number_of (text_at ts place))
cell ts node.Empty = string_cell []
cell ts (node.String place) = string_cell (text_at ts place)
cell ts (node.Key place) = key_cell (text_at ts place)
cell ts (node.Array n) = array_cell n
cell ts (node.Object n) = object_cell n

-- how many nodes the value takes that begins with this one
abbrev pub span : Cell → ℕ
span null_cell = 1
span (boolean_cell b) = 1
span (number_cell n) = 1
span (string_cell s) = 1
span (key_cell s) = 1
span (array_cell n) = n
span (object_cell n) = n

-- ---- the nodes of a value: the first one, and those of its items or members

abbrev mutual
  pub first_cell : json.Json → Cell
  first_cell json.null = null_cell
  first_cell (json.boolean b) = boolean_cell b
  first_cell (json.number s) = number_cell (number_of s)
  first_cell (json.string s) = string_cell s
  first_cell (json.array js) = array_cell (suc (length (items_cells js)))
  first_cell (json.object ms) = object_cell (suc (length (members_cells ms)))

  pub inner_cells : json.Json → List Cell
  inner_cells json.null = []
  inner_cells (json.boolean b) = []
  inner_cells (json.number s) = []
  inner_cells (json.string s) = []
  inner_cells (json.array js) = items_cells js
  inner_cells (json.object ms) = members_cells ms

  pub items_cells : json.Items → List Cell
  items_cells json.no_items = []
  items_cells (json.item j js) = first_cell j ∷ (inner_cells j ++ items_cells js)

  pub members_cells : json.Members → List Cell
  members_cells json.no_members = []
  members_cells (json.member k j ms) = key_cell k ∷ first_cell j ∷ (inner_cells j ++ members_cells ms)

abbrev pub json_cells : json.Json → List Cell
json_cells j = first_cell j ∷ inner_cells j

-- ---- the value that nodes are

abbrev pub number_or_null : Option Num → Data
number_or_null None = null
number_or_null (Some n) = number n

abbrev key_or_empty : Cell → List ℕ
key_or_empty null_cell = []
key_or_empty (boolean_cell b) = []
key_or_empty (number_cell n) = []
key_or_empty (string_cell s) = []
key_or_empty (key_cell s) = s
key_or_empty (array_cell n) = []
key_or_empty (object_cell n) = []

-- The number bounds the turns.
abbrev mutual
  pub data_in : ℕ → List Cell → Data
  data_in zero cs = null
  data_in (suc n) [] = null
  data_in (suc n) (null_cell ∷ cs) = null
  data_in (suc n) (boolean_cell b ∷ cs) = boolean b
  data_in (suc n) (number_cell o ∷ cs) = number_or_null o
  data_in (suc n) (string_cell s ∷ cs) = string s
  data_in (suc n) (key_cell s ∷ cs) = null
  data_in (suc n) (array_cell l ∷ cs) = array (items_in n cs)
  data_in (suc n) (object_cell l ∷ cs) = object (put_all (pairs_in n cs) no_members)

  pub items_in : ℕ → List Cell → Items
  items_in zero cs = no_items
  items_in (suc n) [] = no_items
  items_in (suc n) (c ∷ cs) = item (data_in n (take (span c) (c ∷ cs))) (items_in n (drop (span c) (c ∷ cs)))

  pub pairs_in : ℕ → List Cell → List (List ℕ × Data)
  pairs_in zero cs = []
  pairs_in (suc n) [] = []
  pairs_in (suc n) (k ∷ []) = []
  pairs_in (suc n) (k ∷ c ∷ cs) = (key_or_empty k, data_in n (take (span c) (c ∷ cs))) ∷ pairs_in n (drop (span c) (c ∷ cs))

-- two turns for each node are enough
abbrev pub turns : List Cell → ℕ
turns cs = 2 * length cs + 1

abbrev pub data_at : Texts → List Node → Data
data_at ts nodes = data_in (turns (map (cell ts) nodes)) (map (cell ts) nodes)

abbrev pub items_at : Texts → List Node → Items
items_at ts nodes = items_in (turns (map (cell ts) nodes)) (map (cell ts) nodes)

abbrev pub members_at : Texts → List Node → List (List ℕ × Data)
members_at ts nodes = pairs_in (turns (map (cell ts) nodes)) (map (cell ts) nodes)

-- ---- these nodes, and no more, are those of a value, of items, of members

abbrev pub AreOf : Texts → List Node → json.Json → Type 0
AreOf ts nodes j = (map (cell ts) nodes ≡ json_cells j) × HasData j

abbrev pub AreOfItems : Texts → List Node → json.Items → Type 0
AreOfItems ts nodes js = (map (cell ts) nodes ≡ items_cells js) × HasItems js

abbrev pub AreOfMembers : Texts → List Node → json.Members → Type 0
AreOfMembers ts nodes ms = (map (cell ts) nodes ≡ members_cells ms) × HasPairs ms

abbrev pub HoldsData : Texts → List Node → Type 0
HoldsData ts nodes = (j : json.Json) × AreOf ts nodes j

abbrev pub HoldsItems : Texts → List Node → Type 0
HoldsItems ts nodes = (js : json.Items) × AreOfItems ts nodes js

abbrev pub HoldsMembers : Texts → List Node → Type 0
HoldsMembers ts nodes = (ms : json.Members) × AreOfMembers ts nodes ms
