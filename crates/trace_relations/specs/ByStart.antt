-- Spans by their starts.
use Rattle.std.specs.Prelude.{◌≡◌, ◌≢◌, ℕ, ◌+◌, List, [], ◌∷◌, AllPairs, map, IsPermutation, IsSorted}
use Rattle.std.specs.List.Sorted.{IsNonDecreasingBy}
use Rattle.std.specs.declared.cmp.Ordering.{Ordering}
use Rattle.std.specs.Ordering.{nat_cmp, ordering_then}
use Rattle.trace_relations.specs.declared.moment.Interval.{Interval}
use Rattle.trace_relations.specs.Ancestry.{start_at}

abbrev pub pair_cmp : ℕ × ℕ → ℕ × ℕ → Ordering
pair_cmp a b = ordering_then (nat_cmp a.0 b.0) (nat_cmp a.1 b.1)

-- the start of each span, and its place
abbrev pub starts_from : ℕ → List Interval → List (ℕ × ℕ)
starts_from place [] = []
starts_from place (interval ∷ intervals) = (interval.start, place) ∷ starts_from (place + 1) intervals

abbrev pub all_starts : List Interval → List (ℕ × ℕ)
all_starts intervals = starts_from 0 intervals

abbrev pub AreSorted : List Interval → List (ℕ × ℕ) → Type 0
AreSorted intervals starts = IsPermutation (all_starts intervals) starts × IsSorted pair_cmp starts

-- the places of spans by their starts; of those at one tick, by their order in the file
abbrev pub AreByStart : List Interval → List ℕ → Type 0
AreByStart intervals places = (starts : List (ℕ × ℕ)) × AreSorted intervals starts × (places ≡ map (λ start. start.1) starts)

-- none of these places stands twice, and each starts no earlier than the one before
pub record AreInTurn (intervals : List Interval) (places : List ℕ) : Type 0 where
  pub rise : IsNonDecreasingBy (start_at intervals) places
  pub once : AllPairs (λ place other. place ≢ other) places
