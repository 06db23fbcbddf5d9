-- Marks: places, each with a rank. Contracts see them as a list of ranks with places.
use Rattle.std.specs.Prelude.{ℕ, ◌<◌, ◌≤◌, ◌≡◌, ◌⊎◌, ◌&&◌, ◌||◌, ◌==◌, Bool, true, false, not, List, length, map, AllPairs}
use Rattle.std.specs.List.{list_any}
use Rattle.rank_order.specs.Lists.{is_among}

-- whether the place is marked with the rank
abbrev pub has_mark : List (ℕ × ℕ) → ℕ → ℕ → Bool
has_mark marks rank place = list_any (λ mark. mark.0 == rank && mark.1 == place) marks

abbrev pub place_of : ℕ × ℕ → ℕ
place_of mark = mark.1

-- whether the place is marked, with any rank
abbrev pub has_place : List (ℕ × ℕ) → ℕ → Bool
has_place marks place = is_among place (map place_of marks)

-- whether the place is marked, by these ranks
abbrev pub is_marked : (ℕ → ℕ) → List (ℕ × ℕ) → ℕ → Bool
is_marked ranks marks place = has_mark marks (ranks place) place

-- each mark has the rank of its place
abbrev pub AreMarks : (ℕ → ℕ) → List (ℕ × ℕ) → Type 0
AreMarks ranks marks = (rank place : ℕ) → has_mark marks rank place ≡ true → rank ≡ ranks place

-- the place is marked with this rank alone
abbrev pub HasRankAlone : List (ℕ × ℕ) → ℕ → ℕ → Type 0
HasRankAlone marks rank place = (other_rank : ℕ) → has_mark marks other_rank place ≡ true → other_rank ≡ rank

-- each other place is marked as before
abbrev pub IsSameBut : ℕ → List (ℕ × ℕ) → List (ℕ × ℕ) → Type 0
IsSameBut place old new = (other_rank other : ℕ) → (other == place) ≡ false → has_mark new other_rank other ≡ has_mark old other_rank other

-- each mark that is left was one before
abbrev pub AreLeft : List (ℕ × ℕ) → List (ℕ × ℕ) → Type 0
AreLeft marks left = (rank place : ℕ) → has_mark left rank place ≡ true → has_mark marks rank place ≡ true

-- by these ranks, and then by place
abbrev pub ComesBefore : (ℕ → ℕ) → ℕ → ℕ → Type 0
ComesBefore ranks one other = (ranks one < ranks other) ⊎ ((ranks one ≡ ranks other) × (one < other))

-- the place was the first of all marked ones, and is no longer marked
pub record IsFirst (ranks : ℕ → ℕ) (marked left : ℕ → Bool) (place : ℕ) : Type 0 where
  pub here : marked place ≡ true
  pub least : (other : ℕ) → marked other ≡ true → (place ≡ other) ⊎ ComesBefore ranks place other
  pub rest : (other : ℕ) → left other ≡ (marked other && not (other == place))

-- The marked places are those of the level, which have the least rank and ascend, and those above it.
pub record IsLevel (ranks : ℕ → ℕ) (marked : ℕ → Bool) (level : List ℕ) (above : ℕ → Bool) : Type 0 where
  pub split : (place : ℕ) → marked place ≡ (is_among place level || above place)
  pub least : ℕ
  pub level_rank : (place : ℕ) → is_among place level ≡ true → ranks place ≡ least
  pub above_rank : (place : ℕ) → above place ≡ true → least < ranks place
  pub ascends : AllPairs (λ one other. one < other) level

-- each mark has at least this rank
abbrev pub AreFrom : List (ℕ × ℕ) → ℕ → Type 0
AreFrom marks least = (rank place : ℕ) → has_mark marks rank place ≡ true → least ≤ rank

-- each mark has a higher rank
abbrev pub AreAbove : List (ℕ × ℕ) → ℕ → Type 0
AreAbove marks least = (rank place : ℕ) → has_mark marks rank place ≡ true → least < rank

-- some place is marked with the rank, and none with a lower one
abbrev pub IsLeastRank : List (ℕ × ℕ) → ℕ → Type 0
IsLeastRank marks least = ((place : ℕ) × (has_mark marks least place ≡ true)) × AreFrom marks least

-- the mark was the least of all, and is no longer there
pub record IsPopped (marks left : List (ℕ × ℕ)) (rank place : ℕ) : Type 0 where
  pub here : has_mark marks rank place ≡ true
  pub least : (other_rank other : ℕ) → has_mark marks other_rank other ≡ true → (rank < other_rank) ⊎ ((rank ≡ other_rank) × (place ≤ other))
  pub rest : (other_rank other : ℕ) → has_mark left other_rank other ≡ (has_mark marks other_rank other && not (other_rank == rank && other == place))
  pub fewer : length left < length marks
