-- What a tree of names has for each name.
use Rattle.std.specs.Prelude.{ℕ, ◌-◌, ◌/◌, ◌%◌, ◌^◌, Bool, cond, nat_lt, nat_eq, List, length, slice_index, Option, Some, None}
use Rattle.std.specs.Str.{bytes_eq}
use Rattle.stage_graph.specs.declared.name_tree.Entry.{Entry}
use Rattle.stage_graph.specs.declared.name_tree.Part.{Part}
use Rattle.stage_graph.specs.declared.name_tree.Part.TheVariants.{Empty, One, More', Fork'}
use Rattle.stage_graph.specs.declared.name_tree.NameTree.{NameTree}

-- half of a byte of the name: first come the low halves, from the last byte to the first, then the high ones
abbrev pub half_byte : List ℕ → ℕ → ℕ
half_byte name at = cond (nat_lt at (length name)) (slice_index name (length name - 1 - at) % 16)
    (cond (nat_lt (at - length name) (length name)) (slice_index name (length name - 1 - (at - length name)) / 16) 0)

-- the bit of a name that selects the branch when this many bits are left
abbrev pub decides : List ℕ → ℕ → Bool
decides name left = nat_eq (half_byte name ((512 - left) / 4) / 2 ^ ((512 - left) % 4) % 2) 1

-- what an entry has for a name, or else the default answer
abbrev pub told_by : Entry → List ℕ → Option (Option ℕ) → Option (Option ℕ)
told_by entry name answer = cond (bytes_eq entry.name name) (Some entry.place) answer

-- what a subtree has for a name of which this many bits are left
abbrev pub told_below : ℕ → Part → List ℕ → Option (Option ℕ)
told_below left Empty name = None
told_below left (One entry) name = told_by entry name None
told_below left (More' entry p rest) name = told_by entry name (told_below left rest name)
told_below left (Fork' p zero one) name = cond (decides name left) (told_below (left - 1) one name) (told_below (left - 1) zero name)

-- what the tree has for a name
abbrev pub told : NameTree → List ℕ → Option (Option ℕ)
told tree name = told_below 512 tree.root name
