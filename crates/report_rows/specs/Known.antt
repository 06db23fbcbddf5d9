-- Places that are known.
use Rattle.std.specs.Prelude.{◌≡◌, ℕ, List, nat_eq}
use Rattle.std.specs.HashSet.{HashSet, contains_by}
use Rattle.rank_order.specs.Lists.{is_among}

-- these are known, and no others
abbrev pub Knows : {S : Type 0} → HashSet ℕ S → List ℕ → Type 0
Knows known places = (place : ℕ) → contains_by (nat_eq place) known ≡ is_among place places
