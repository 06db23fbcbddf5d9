-- Marks as they are stored: in a heap whose top is the least, by rank and then by place, in which no place stands twice; and the
-- set of their places, where there is one.
use Rattle.std.specs.Prelude.{ℕ, ◌<◌, ◌≤◌, ◌≡◌, ◌⊎◌, ◌&&◌, ◌||◌, not, ◌==◌, Bool, true, false, List, Option, IfSome, map, nat_eq}
use Rattle.std.specs.BinaryHeap.{IsHeap}
use Rattle.std.specs.List.{IsDistinct}
use Rattle.std.specs.Ordering.{nat_cmp, ordering_then}
use Rattle.std.specs.declared.cmp.Ordering.{Ordering}
use Rattle.std.specs.declared.cmp.Reverse.{Reverse}
use Rattle.rank_order.specs.declared.marks.Mark.{Mark}
use Rattle.rank_order.specs.Lists.{is_among}
use Rattle.rank_order.specs.Marks.{has_mark, place_of}
use Rattle.rank_order.specs.PlaceSets.{is_within}

abbrev pub mark_cmp : Mark → Mark → Ordering
mark_cmp one other = ordering_then (nat_cmp one.rank other.rank) (nat_cmp one.place other.place)

-- the top of a heap is the greatest by this
abbrev pub heap_cmp : Reverse Mark → Reverse Mark → Ordering
heap_cmp one other = mark_cmp (other.0) (one.0)

-- how contracts see a mark, and those of a heap
abbrev pub pair_of : Reverse Mark → ℕ × ℕ
pair_of mark = (mark.0.rank, mark.0.place)

abbrev pub marks_in : List (Reverse Mark) → List (ℕ × ℕ)
marks_in items = map pair_of items

-- their places
abbrev pub places_in : List (Reverse Mark) → List ℕ
places_in items = map place_of (marks_in items)

abbrev pub has_rank : ℕ → Reverse Mark → Bool
has_rank rank mark = mark.0.rank == rank

-- whether this is the mark
abbrev pub is_of : Mark → Reverse Mark → Bool
is_of mark other = other.0.rank == mark.rank && other.0.place == mark.place

-- the set has the places of these marks
abbrev pub IsSetOf : List (Reverse Mark) → List ℕ → Type 0
IsSetOf items words = (place : ℕ) → is_within words place ≡ is_among place (places_in items)

-- the set has this place too, or does not
abbrev pub IsSetWith : List (Reverse Mark) → ℕ → List ℕ → Type 0
IsSetWith items place words = (other : ℕ) → is_within words other ≡ (is_among other (places_in items) || other == place)

abbrev pub IsSetWithout : List (Reverse Mark) → ℕ → List ℕ → Type 0
IsSetWithout items place words = (other : ℕ) → is_within words other ≡ (is_among other (places_in items) && not (other == place))

pub record AreStored (items : List (Reverse Mark)) (set : Option (List ℕ)) : Type 0 where
  pub order : IsHeap heap_cmp items
  pub once : IsDistinct nat_eq (places_in items)
  pub places : IfSome set (IsSetOf items)

-- each mark has this rank
abbrev pub HaveRank : List (ℕ × ℕ) → ℕ → Type 0
HaveRank marks least = (rank place : ℕ) → has_mark marks rank place ≡ true → rank ≡ least

-- the place is marked with this rank, and each other one as before
pub record IsMarkedAs (old new : List (ℕ × ℕ)) (rank place : ℕ) : Type 0 where
  pub here : has_mark new rank place ≡ true
  pub others : (other_rank other : ℕ) → (other == place) ≡ false → has_mark new other_rank other ≡ has_mark old other_rank other
  pub ranks : (other_rank : ℕ) → has_mark new other_rank place ≡ true → (other_rank ≡ rank) ⊎ (has_mark old other_rank place ≡ true)

-- no mark comes before this one
abbrev pub IsBottom : List (ℕ × ℕ) → ℕ → ℕ → Type 0
IsBottom marks rank place = (other_rank other : ℕ) → has_mark marks other_rank other ≡ true → (rank < other_rank) ⊎ ((rank ≡ other_rank) × (place ≤ other))
