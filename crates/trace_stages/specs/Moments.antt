-- The moments of a trace, in order.
use Rattle.std.specs.Prelude.{ℕ, ◌+◌, List, [], ◌∷◌, ◌++◌, Option, Some, None, IsPermutation, IsSorted}
use Rattle.std.specs.declared.cmp.Ordering.{Ordering}
use Rattle.std.specs.Ordering.{ordering_then}
use Rattle.trace_relations.specs.declared.moment.Interval.{Interval}
use Rattle.trace_relations.specs.declared.moment.Moment.{Moment}
use Rattle.trace_relations.specs.ByStart.{pair_cmp}
use Rattle.trace_relations.specs.Moments.{end_moment, turn_number}

-- a tick and a turn at it, and which span starts or ends then: its start and its place
abbrev pub At : Type 0
At = (ℕ × ℕ) × (ℕ × ℕ)

abbrev pub moment_of : Moment → ℕ → ℕ → At
moment_of moment start place = ((moment.tick, turn_number moment.turn), (start, place))

abbrev pub end_of : Option Moment → ℕ → ℕ → List At
end_of None start place = []
end_of (Some end) start place = moment_of end start place ∷ []

-- a start is the turn 1 at its tick
abbrev pub moments_of : ℕ → Interval → List At
moments_of place interval = ((interval.start, 1), (interval.start, place)) ∷ end_of (end_moment interval) interval.start place

abbrev pub moments_from : ℕ → List Interval → List At
moments_from place [] = []
moments_from place (interval ∷ intervals) = moments_of place interval ++ moments_from (place + 1) intervals

abbrev pub all_moments : List Interval → List At
all_moments intervals = moments_from 0 intervals

-- compared number by number: by tick, turn, start and place
abbrev pub at_cmp : At → At → Ordering
at_cmp a b = ordering_then (pair_cmp a.0 b.0) (pair_cmp a.1 b.1)

-- these are the starts and the ends of all spans, in order
abbrev pub AreMoments : List Interval → List At → Type 0
AreMoments intervals moments = IsPermutation (all_moments intervals) moments × IsSorted at_cmp moments
