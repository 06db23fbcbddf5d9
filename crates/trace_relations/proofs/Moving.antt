-- How far clocks are moved.
use Rattle.std.proofs.Common.{◌≡◌, ℕ, suc, zero, ◌+◌, ◌^◌, ◌≤◌, ℤ, pos, negsuc, ◌+ℤ◌, ◌-ℤ◌, List, [], ◌∷◌, cond, Option, Some, None, subst, arith}
use Rattle.std.specs.Prelude.{All, IfSome, filter, int_le, int_lt, nat_eq, not, option_map, ◌&&◌}
use Rattle.std.specs.Int.{int_div_euclid, int_max, int_min}
use Rattle.std.proofs.lemmas.Bool.{cond_both}
use Rattle.std.proofs.lemmas.Int.{ints}
use Rattle.std.proofs.lemmas.Option.{none-some, same_Some}
use Rattle.std.proofs.lemmas.List.Elements.{All-filter, All-head, All-tail, All-weaker}
use Rattle.trace_relations.specs.declared.clocks.Pair.{Pair}
use Rattle.trace_relations.specs.declared.clocks.Range.{Range}
use Rattle.trace_relations.specs.Clocks.{Moves, by_other, everything, higher, is_at_most, is_bounded, lower, middle_of, move_in, narrowed, narrowed_by, of_called, of_caller, range_of, says_of}
use Rattle.trace_relations.specs.KeptMoves.{AreMovesWithin, IsAtMost, IsPairAmong, IsRangeWithin, IsSaid, moves_in}

pub at_most_more : (m n : ℕ) (z : ℤ) → m ≤ n → IsAtMost m z → IsAtMost n z
at_most_more m n z le at = (omega (arith, ints), omega (arith, ints))

pub zero_at_most : (m : ℕ) → IsAtMost m (pos 0)
zero_at_most m = (omega (arith, ints), omega (arith, ints))

sum_at_most : (m n : ℕ) (a b : ℤ) → IsAtMost m a → IsAtMost n b → IsAtMost (m + n) (a +ℤ b)
sum_at_most m n a b p q = (omega (arith, ints), omega (arith, ints))

difference_at_most : (m n : ℕ) (a b : ℤ) → IsAtMost m a → IsAtMost n b → IsAtMost (m + n) (a -ℤ b)
difference_at_most m n a b p q = (omega (arith, ints), omega (arith, ints))

max_at_most : (m : ℕ) (a b : ℤ) → IsAtMost m a → IsAtMost m b → IsAtMost m (int_max a b)
max_at_most m a b p q = cond_both (int_lt b a) a b (IsAtMost m) (λ e. p) (λ e. q)

min_at_most : (m : ℕ) (a b : ℤ) → IsAtMost m a → IsAtMost m b → IsAtMost m (int_min a b)
min_at_most m a b p q = cond_both (int_lt b a) b a (IsAtMost m) (λ e. q) (λ e. p)

half_at_most : (m : ℕ) (z : ℤ) → IsAtMost (m + m) z → IsAtMost m (int_div_euclid z (pos 2))
half_at_most m (pos a) at = (omega (arith, ints), omega (arith, ints))
half_at_most m (negsuc a) at = (omega (arith, ints), omega (arith, ints))

-- ---- ranges

higher_within : (m : ℕ) (low other : Option ℤ) → IfSome low (IsAtMost m) → IfSome other (IsAtMost m) → IfSome (higher low other) (IsAtMost m)
higher_within m None other p q = q
higher_within m (Some low) None p q = p
higher_within m (Some low) (Some other) p q = max_at_most m low other p q

lower_within : (m : ℕ) (high other : Option ℤ) → IfSome high (IsAtMost m) → IfSome other (IsAtMost m) → IfSome (lower high other) (IsAtMost m)
lower_within m None other p q = q
lower_within m (Some high) None p q = p
lower_within m (Some high) (Some other) p q = min_at_most m high other p q

narrowed_within : (m : ℕ) (range other : Range) → IsRangeWithin m range → IsRangeWithin m other → IsRangeWithin m (narrowed range other)
narrowed_within m range other p q =
    cond_both (is_at_most (higher range.low other.low) (lower range.high other.high)) (record { low = higher range.low other.low; high = lower range.high other.high }) range (IsRangeWithin m)
    (λ e. (higher_within m range.low other.low p.0 q.0, lower_within m range.high other.high p.1 q.1)) (λ e. p)

mapped_within : (o : Option ℤ) (f : ℤ → ℤ) (m n : ℕ) → IfSome o (IsAtMost m) → ((z : ℤ) → IsAtMost m z → IsAtMost n (f z)) → IfSome (option_map f o) (IsAtMost n)
mapped_within None f m n p all = tt
mapped_within (Some z) f m n p all = all z p

called_within : (m : ℕ) (pair : Pair) (by : Option ℤ) → IsSaid pair → IfSome by (IsAtMost m) → IsRangeWithin (m + 2 ^ 64) (by_other (of_called pair) by)
called_within m pair None said at = (tt, tt)
called_within m pair (Some by) said at = (
  sum_at_most m (2 ^ 64) by pair.least at said.least,
  mapped_within pair.most (λ most. by +ℤ most) (2 ^ 64) (m + 2 ^ 64) said.most (λ most p. sum_at_most m (2 ^ 64) by most at p),
)

caller_within : (m : ℕ) (pair : Pair) (by : Option ℤ) → IsSaid pair → IfSome by (IsAtMost m) → IsRangeWithin (m + 2 ^ 64) (by_other (of_caller pair) by)
caller_within m pair None said at = (tt, tt)
caller_within m pair (Some by) said at = (
  mapped_within pair.most (λ most. by -ℤ most) (2 ^ 64) (m + 2 ^ 64) said.most (λ most p. difference_at_most m (2 ^ 64) by most at p),
  difference_at_most m (2 ^ 64) by pair.least at said.least,
)

says_within : (m : ℕ) (moves : Moves) (clock : ℕ) (pair : Pair) → ((other : ℕ) → IfSome (moves other) (IsAtMost m)) → IsSaid pair → IsRangeWithin (m + 2 ^ 64) (says_of moves clock pair)
says_within m moves clock pair within said =
    cond_both (nat_eq pair.called clock) (by_other (of_called pair) (moves pair.caller)) (cond (nat_eq pair.caller clock) (by_other (of_caller pair) (moves pair.called)) everything) (IsRangeWithin (m + 2 ^ 64))
    (λ e. called_within m pair (moves pair.caller) said (within pair.caller))
    (λ e. cond_both (nat_eq pair.caller clock) (by_other (of_caller pair) (moves pair.called)) everything (IsRangeWithin (m + 2 ^ 64)) (λ f. caller_within m pair (moves pair.called) said (within pair.called)) (λ f. (tt, tt)))

all_narrowed_within : (m : ℕ) (moves : Moves) (clock : ℕ) (pairs : List Pair) (range : Range) → ((other : ℕ) → IfSome (moves other) (IsAtMost m)) → All IsSaid pairs → IsRangeWithin (m + 2 ^ 64) range → IsRangeWithin (m + 2 ^ 64) (narrowed_by moves clock pairs range)
all_narrowed_within m moves clock [] range within said p = p
all_narrowed_within m moves clock (pair ∷ pairs) range within said p =
    all_narrowed_within m moves clock pairs (narrowed range (says_of moves clock pair)) within (All-tail IsSaid pair pairs said)
    (narrowed_within (m + 2 ^ 64) range (says_of moves clock pair) p (says_within m moves clock pair within (All-head IsSaid pair pairs said)))

pub range_within : (m : ℕ) (moves : Moves) (clock : ℕ) (pairs : List Pair) → ((other : ℕ) → IfSome (moves other) (IsAtMost m)) → All IsSaid pairs → IsRangeWithin (m + 2 ^ 64) (range_of moves clock pairs)
range_within m moves clock pairs within said =
    all_narrowed_within m moves clock (filter (λ pair. not (is_bounded pair)) pairs) (narrowed_by moves clock (filter is_bounded pairs) everything) within (All-filter (λ pair. not (is_bounded pair)) IsSaid pairs said)
    (all_narrowed_within m moves clock (filter is_bounded pairs) everything within (All-filter is_bounded IsSaid pairs said) (tt, tt))

middle_within : (m : ℕ) (low high : Option ℤ) → IfSome low (IsAtMost m) → IfSome high (IsAtMost m) → IsAtMost m (middle_of low high)
middle_within m None None p q = zero_at_most m
middle_within m (Some low) None p q = max_at_most m low (pos 0) p (zero_at_most m)
middle_within m None (Some high) p q = min_at_most m high (pos 0) q (zero_at_most m)
middle_within m (Some low) (Some high) p q =
    cond_both (int_le low (pos 0) && int_le (pos 0) high) (pos 0) (int_div_euclid (low +ℤ high) (pos 2)) (IsAtMost m) (λ e. zero_at_most m) (λ e. half_at_most m (low +ℤ high) (sum_at_most m m low high p q))

-- a clock is moved by not much more than those before
pub move_within : (m : ℕ) (moves : Moves) (clock : ℕ) (pairs : List Pair) → ((other : ℕ) → IfSome (moves other) (IsAtMost m)) → All IsSaid pairs → IsAtMost (m + 2 ^ 64) (move_in (range_of moves clock pairs))
move_within m moves clock pairs within said =
    let range = range_within m moves clock pairs within said in
    middle_within (m + 2 ^ 64) (range_of moves clock pairs).low (range_of moves clock pairs).high range.0 range.1

-- ---- kept moves

pub moves_at : (m : ℕ) (moves : List (Option ℤ)) → AreMovesWithin m moves → (clock : ℕ) → IfSome (moves_in moves clock) (IsAtMost m)
moves_at m [] within clock = tt
moves_at m (by ∷ moves) within zero = All-head (λ each. IfSome each (IsAtMost m)) by moves within
moves_at m (by ∷ moves) within (suc clock) = moves_at m moves (All-tail (λ each. IfSome each (IsAtMost m)) by moves within) clock

some_more : (m n : ℕ) (by : Option ℤ) → m ≤ n → IfSome by (IsAtMost m) → IfSome by (IsAtMost n)
some_more m n None le p = tt
some_more m n (Some by) le p = at_most_more m n by le p

pub moves_more : (m n : ℕ) (moves : List (Option ℤ)) → m ≤ n → AreMovesWithin m moves → AreMovesWithin n moves
moves_more m n moves le within = All-weaker (λ by. IfSome by (IsAtMost m)) (λ by. IfSome by (IsAtMost n)) (λ by p. some_more m n by le p) moves within

pub range_more : (m n : ℕ) (range : Range) → m ≤ n → IsRangeWithin m range → IsRangeWithin n range
range_more m n range le p = (some_more m n range.low le p.0, some_more m n range.high le p.1)

pub all_said : (count : ℕ) (pairs : List Pair) → All (IsPairAmong count) pairs → All IsSaid pairs
all_said count pairs among = All-weaker (IsPairAmong count) IsSaid (λ pair p. p.said) pairs among

-- what is known of one move
pub move_at : (m : ℕ) (moves : List (Option ℤ)) (clock : ℕ) (by : ℤ) → AreMovesWithin m moves → moves_in moves clock ≡ Some by → IsAtMost m by
move_at m moves clock by within is = some_at m (moves_in moves clock) by is (moves_at m moves within clock)
  where
    some_at : (m : ℕ) (o : Option ℤ) (by : ℤ) → o ≡ Some by → IfSome o (IsAtMost m) → IsAtMost m by
    some_at m None by is p = absurd (none-some by is)
    some_at m (Some other) by is p = subst (IsAtMost m) (same_Some other by is) p
