-- Which of so many places are among some of them.
use Rattle.std.specs.Prelude.{ℕ, ◌≡◌, ◌<◌, Bool, false, List, slice_index_or}
use Rattle.rank_order.specs.Lists.{is_among}

-- the place has a flag that is raised
abbrev pub is_flagged : List Bool → ℕ → Bool
is_flagged flags place = slice_index_or flags place false

-- the flags of these places are raised, of so many
abbrev pub AreFlags : List Bool → ℕ → List ℕ → Type 0
AreFlags flags count places = (place : ℕ) → place < count → is_flagged flags place ≡ is_among place places
