-- C. Clocks: those that a trace contradicts are moved, so that what was done for a caller lies inside the call.
use Rattle.std.specs.Prelude.{ℕ, suc, zero, ℤ, pos, ◌+ℤ◌, ◌-ℤ◌, ◌+◌, ◌&&◌, List, [], ◌∷◌, Bool, true, false, not, nat_eq, nat_le, int_le, is_some, is_none, if◌then◌else◌, Option, Some, None, option_map, unwrap_or, slice_get, filter, find, fold, option_and_then, bytes_eq}
use Rattle.std.specs.Cmp.Lexicographic.{pointwise}
use Rattle.std.specs.Int.{int_div_euclid, int_max, int_min}
use Rattle.std.specs.List.{position_from}
use Rattle.trace_spans.specs.declared.span.Span.{Span}
use Rattle.trace_relations.specs.declared.clocks.Pair.{Pair}
use Rattle.trace_relations.specs.declared.clocks.Range.{Range}
use Rattle.trace_relations.specs.Calls.{is_message}
use Rattle.trace_relations.specs.Parents.{named_parent}

abbrev pub same_clock : Span → Span → Bool
same_clock span other = pointwise bytes_eq span.clock other.clock

-- a clock is known by the first span that has it
abbrev pub clock_of : List Span → Span → ℕ
clock_of spans span = unwrap_or (position_from (same_clock span) 0 spans) 0

-- ---- what pairs say

-- the call lay inside its caller: neither is a message, the caller did not fail, and both ended, the call after at most as long a time
abbrev pub is_whole : Span → Span → Option ℕ → Option ℕ → ℕ → ℕ → Bool
is_whole caller span (Some caller_end) (Some end) caller_start start =
    not caller.failed && not (is_message caller span) && (nat_le start end && nat_le (end + caller_start) (caller_end + start))
is_whole caller span caller_end end caller_start start = false

abbrev pub end_after : Option ℕ → Option ℕ → Option ℤ
end_after (Some caller_end) (Some end) = Some (pos caller_end -ℤ pos end)
end_after caller_end end = None

-- a span started no earlier than its caller; where it lay inside, it ended no later
abbrev pub pair_said : List Span → Span → Span → ℕ → ℕ → Pair
pair_said spans caller span caller_start start = record {
  caller = clock_of spans caller;
  called = clock_of spans span;
  least = pos caller_start -ℤ pos start;
  most = if is_whole caller span caller.end span.end caller_start start then end_after caller.end span.end else None;
}

abbrev pub pair_between : List Span → Span → Span → Option ℕ → Option ℕ → List Pair
pair_between spans caller span (Some caller_start) (Some start) = pair_said spans caller span caller_start start ∷ []
pair_between spans caller span caller_start start = []

abbrev pub pair_with : List Span → Span → Option Span → List Pair
pair_with spans span None = []
pair_with spans span (Some caller) = if same_clock caller span then [] else pair_between spans caller span caller.start span.start

-- what a span and the first parent that it names say of their clocks, if these are two
abbrev pub pair_of : List Span → ℕ → Span → List Pair
pair_of spans place span = pair_with spans span (option_and_then (slice_get spans) (named_parent spans place span))

-- ---- ranges

abbrev pub everything : Range
everything = record { low = None; high = None }

abbrev pub higher : Option ℤ → Option ℤ → Option ℤ
higher None other = other
higher (Some low) None = Some low
higher (Some low) (Some other) = Some (int_max low other)

abbrev pub lower : Option ℤ → Option ℤ → Option ℤ
lower None other = other
lower (Some high) None = Some high
lower (Some high) (Some other) = Some (int_min high other)

abbrev pub is_at_most : Option ℤ → Option ℤ → Bool
is_at_most (Some low) (Some high) = int_le low high
is_at_most low high = true

abbrev pub unless_empty : Range → Range → Range
unless_empty before range = if is_at_most range.low range.high then range else before

-- what both say, unless nothing is left
abbrev pub narrowed : Range → Range → Range
narrowed range other = unless_empty range (record { low = higher range.low other.low; high = lower range.high other.high })

-- by how much a clock is moved: not at all, if that may be; else by the bound where there is one; else by their middle
abbrev pub middle_of : Option ℤ → Option ℤ → ℤ
middle_of None None = pos 0
middle_of (Some low) None = int_max low (pos 0)
middle_of None (Some high) = int_min high (pos 0)
middle_of (Some low) (Some high) = if int_le low (pos 0) && int_le (pos 0) high then pos 0 else int_div_euclid (low +ℤ high) (pos 2)

-- ---- one clock after another

-- what a pair says of one of its clocks by the other, which is moved by so much
abbrev pub of_called : Pair → ℤ → Range
of_called pair by = record { low = Some (by +ℤ pair.least); high = option_map (λ most. by +ℤ most) pair.most }

abbrev pub of_caller : Pair → ℤ → Range
of_caller pair by = record { low = option_map (λ most. by -ℤ most) pair.most; high = Some (by -ℤ pair.least) }

abbrev pub by_other : (ℤ → Range) → Option ℤ → Range
by_other says None = everything
by_other says (Some by) = says by

-- by how much clocks are moved, of those that are placed
abbrev pub Moves : Type 0
Moves = ℕ → Option ℤ

-- what a pair says of a clock that isn't placed
abbrev pub says_of : Moves → ℕ → Pair → Range
says_of moves clock pair =
    if nat_eq pair.called clock then by_other (of_called pair) (moves pair.caller) else
    (if nat_eq pair.caller clock then by_other (of_caller pair) (moves pair.called) else everything)

abbrev pub narrowed_by : Moves → ℕ → List Pair → Range → Range
narrowed_by moves clock pairs range = fold (λ so_far pair. narrowed so_far (says_of moves clock pair)) range pairs

abbrev pub is_bounded : Pair → Bool
is_bounded pair = is_some pair.most

-- what whole calls say comes first
abbrev pub range_of : Moves → ℕ → List Pair → Range
range_of moves clock pairs =
    narrowed_by moves clock (filter (λ pair. not (is_bounded pair)) pairs) (narrowed_by moves clock (filter is_bounded pairs) everything)

abbrev pub move_in : Range → ℤ
move_in range = middle_of range.low range.high

abbrev pub with_move : Moves → ℕ → ℤ → Moves
with_move moves clock by = λ other. if nat_eq other clock then Some by else moves other

-- one of the two clocks is placed, and the other is not
abbrev pub is_next : Moves → Pair → Bool
is_next moves pair = if is_some (moves pair.caller) then is_none (moves pair.called) else is_some (moves pair.called)

abbrev pub unplaced : Moves → Pair → ℕ
unplaced moves pair = if is_some (moves pair.caller) then pair.called else pair.caller

abbrev pub placed_next : Moves → List Pair → Option Pair → Moves
placed_next moves pairs None = moves
placed_next moves pairs (Some pair) = with_move moves (unplaced moves pair) (move_in (range_of moves (unplaced moves pair) pairs))

-- the next clock is that of the first pair of which one side alone is placed
abbrev pub with_next : List Pair → Moves → Moves
with_next pairs moves = placed_next moves pairs (find (is_next moves) pairs)

-- so many clocks more
unfoldable pub placed : List Pair → ℕ → Moves → Moves
placed pairs zero moves = moves
placed pairs (suc n) moves = placed pairs n (with_next pairs moves)
