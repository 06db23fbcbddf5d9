-- By how much clocks are moved, and what pairs say of them, as they are kept.
use Rattle.std.specs.Prelude.{◌≡◌, ℕ, ◌+◌, ◌*◌, ◌^◌, ◌<◌, ◌≤ℤ◌, ℤ, pos, neg_ℤ, ◌&&◌, ◌||◌, List, [], ◌∷◌, All, Bool, true, not, length, nat_eq, if◌then◌else◌, Option, Some, None, IfSome, MatchBool, MatchOption, Vec, slice_get, slice_set, unwrap_or, is_none, is_some, filter, fold, count_by, bytes_eq, option_and_then, option_to_list}
use Rattle.std.specs.BinaryHeap.{IsHeap}
use Rattle.std.specs.HashMap.{HashMap, get_by_text}
use Rattle.std.specs.Ordering.{int_eq, nat_cmp}
use Rattle.std.specs.List.{list_any, position_from, range_with_len}
use Rattle.std.specs.declared.alloc.Global.{Global}
use Rattle.std.specs.declared.cmp.Ordering.{Ordering}
use Rattle.std.specs.declared.cmp.Reverse.{Reverse}
use Rattle.std.specs.Prelude.{String}
use Rattle.trace_spans.specs.declared.span.Span.{Span}
use Rattle.trace_relations.specs.declared.clocks.Pair.{Pair}
use Rattle.trace_relations.specs.declared.clocks.Range.{Range}
use Rattle.trace_relations.specs.declared.placing.Moved.{Moved}
use Rattle.trace_relations.specs.ClockNumbers.{is_root_among}
use Rattle.trace_relations.specs.Clocks.{Moves, is_bounded, is_next, move_in, narrowed, range_of, says_of, unplaced}
use Rattle.trace_relations.specs.Keys.{AreShort, key_of}
use Rattle.trace_relations.specs.Waits.{caller_named}

-- the map has the first of these spans that has each clock, whose texts fit memory
pub record HasClocks {S : Type 0} (known : HashMap (String Global) ℕ S) (spans : List Span) : Type 0 where
  pub first : (key : List ℕ) → get_by_text known key ≡ position_from (λ span. bytes_eq (key_of span.clock) key) 0 spans
  pub short : All (λ span. AreShort span.clock) spans

-- ---- how far clocks are moved

-- not more than so far, either way
abbrev pub IsAtMost : ℕ → ℤ → Type 0
IsAtMost most by = (neg_ℤ (pos most) ≤ℤ by) × (by ≤ℤ pos most)

abbrev pub IsRangeWithin : ℕ → Range → Type 0
IsRangeWithin most range = IfSome range.low (IsAtMost most) × IfSome range.high (IsAtMost most)

abbrev pub AreMovesWithin : ℕ → List (Option ℤ) → Type 0
AreMovesWithin most moves = All (λ by. IfSome by (IsAtMost most)) moves

-- times have 64 bits
pub record IsSaid (pair : Pair) : Type 0 where
  pub least : IsAtMost (2 ^ 64) pair.least
  pub most : IfSome pair.most (IsAtMost (2 ^ 64))

-- the clocks are among the first so many spans
pub record IsPairAmong (count : ℕ) (pair : Pair) : Type 0 where
  pub caller : pair.caller < count
  pub called : pair.called < count
  pub said : IsSaid pair

-- ---- moves

-- by how much clocks are moved, of those that are placed
abbrev pub moves_in : List (Option ℤ) → Moves
moves_in moves clock = unwrap_or (slice_get moves clock) None

abbrev pub placed_count : List (Option ℤ) → ℕ
placed_count moves = count_by is_some moves

abbrev pub touches : ℕ → Pair → Bool
touches clock pair = nat_eq pair.caller clock || nat_eq pair.called clock

abbrev pub is_of : List Pair → ℕ → ℕ → Bool
is_of pairs clock number = list_any (touches clock) (option_to_list (slice_get pairs number))

-- the numbers of the pairs that a clock is in, in order
abbrev pub numbers_of : List Pair → ℕ → List ℕ
numbers_of pairs clock = filter (is_of pairs clock) (range_with_len 0 (length pairs))

abbrev pub numbers_in : Option (Vec ℕ Global) → List ℕ
numbers_in None = []
numbers_in (Some numbers) = numbers.items

abbrev pub numbers_at : List (Vec ℕ Global) → ℕ → List ℕ
numbers_at by_clock clock = numbers_in (slice_get by_clock clock)

-- so many clocks have their pairs
abbrev pub HasPairs : ℕ → List Pair → List (Vec ℕ Global) → Type 0
HasPairs count pairs by_clock = (clock : ℕ) → clock < count → numbers_at by_clock clock ≡ numbers_of pairs clock

abbrev pub counts_as : Bool → Pair → Bool
counts_as are_whole pair = if are_whole then is_bounded pair else not (is_bounded pair)

abbrev pub narrowed_at : Moves → ℕ → Bool → Range → Option Pair → Range
narrowed_at moves clock are_whole range None = range
narrowed_at moves clock are_whole range (Some pair) = if counts_as are_whole pair then narrowed range (says_of moves clock pair) else range

-- what some of the pairs of these numbers say of a clock, beside a range
abbrev pub narrowed_by_numbers : Moves → ℕ → List Pair → List ℕ → Bool → Range → Range
narrowed_by_numbers moves clock pairs numbers are_whole range = fold (λ so_far number. narrowed_at moves clock are_whole so_far (slice_get pairs number)) range numbers

-- ---- pairs that are coming

-- the least number is the greatest of a heap
abbrev pub coming_cmp : Reverse ℕ → Reverse ℕ → Ordering
coming_cmp one other = nat_cmp other.0 one.0

abbrev pub has_number : List (Reverse ℕ) → ℕ → Bool
has_number coming number = list_any (λ it. nat_eq number it.0) coming

-- numbers were added to those that are coming
pub record HaveJoined (numbers : List ℕ) (old new : List (Reverse ℕ)) : Type 0 where
  pub order : IsHeap coming_cmp old → IsHeap coming_cmp new
  pub has : (number : ℕ) → has_number new number ≡ (has_number old number || list_any (nat_eq number) numbers)
  pub count : length new ≡ length old + length numbers

-- of so many clocks some are placed, each by one that was placed before; the pairs that have one clock alone that is placed are coming
pub record Stand (pairs : List Pair) (count : ℕ) (moves : List (Option ℤ)) (coming : List (Reverse ℕ)) : Type 0 where
  pub long : length moves ≡ count
  pub within : AreMovesWithin (placed_count moves * 2 ^ 64) moves
  pub order : IsHeap coming_cmp coming
  pub has : (number : ℕ) (pair : Pair) → slice_get pairs number ≡ Some pair → is_next (moves_in moves) pair ≡ true → has_number coming number ≡ true

-- the clock of a span that names no parent is placed where it is, if it was not placed
abbrev pub IsRootPlaced : List (List ℕ × Bool) → ℕ → ℕ → List ℕ → List (Option ℤ) → List (Reverse ℕ) → List (Option ℤ) → List (Reverse ℕ) → Type 0
IsRootPlaced references place clock numbers moves coming new_moves new_coming =
    MatchBool (is_none (caller_named references place) && is_none (moves_in moves clock))
    ((new_moves ≡ slice_set moves clock (Some (pos 0))) × HaveJoined numbers coming new_coming)
    ((new_moves ≡ moves) × (new_coming ≡ coming))

-- of so many spans the clocks of those that name no parent are placed
pub record HasRoots (spans : List Span) (pairs : List Pair) (count : ℕ) (moves : List (Option ℤ)) (coming : List (Reverse ℕ)) : Type 0 where
  pub stand : Stand pairs (length spans) moves coming
  pub roots : (clock : ℕ) → moves_in moves clock ≡ (if is_root_among spans count clock then Some (pos 0) else None)

-- the clock of a pair that is not placed, where the other is
abbrev pub next_clock : Moves → List Pair → ℕ → Option ℕ
next_clock moves pairs number = option_and_then (λ pair. if is_next moves pair then Some (unplaced moves pair) else None) (slice_get pairs number)

-- the clock of the pair of a number was placed by the other, if that alone was placed
abbrev pub HasPlacedBy : List Pair → ℕ → List (Option ℤ) → List (Reverse ℕ) → List (Option ℤ) → List (Reverse ℕ) → Type 0
HasPlacedBy pairs number moves coming new_moves new_coming =
    MatchOption (next_clock (moves_in moves) pairs number)
    ((new_moves ≡ moves) × (new_coming ≡ coming))
    (λ clock. (new_moves ≡ slice_set moves clock (Some (move_in (range_of (moves_in moves) clock pairs)))) × HaveJoined (numbers_of pairs clock) coming new_coming)

-- ---- clocks that are moved

-- a clock, where a span is the first that has it and it is moved
abbrev pub moved_if : ℕ → ℕ → ℤ → List Moved
moved_if place clock by = if nat_eq clock place && not (int_eq by (pos 0)) then record { clock = place; by = by } ∷ [] else []
