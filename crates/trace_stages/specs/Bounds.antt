-- Until when links out of calls count that were given up: the end of a caller that gave a call up waits for the answer of that, so nothing in it waits for what
-- ended with the caller or later.
use Rattle.std.specs.Prelude.{ℕ, List, ◌∷◌, Bool, true, if◌then◌else◌, Option, Some, None, option_and_then, fold}
use Rattle.trace_relations.specs.declared.moment.Interval.{Interval}
use Rattle.trace_relations.specs.declared.moment.Moment.{Moment}
use Rattle.trace_relations.specs.Ancestry.{ancestors, parent_at}
use Rattle.trace_relations.specs.Moments.{end_moment, ended_before, interval_at, is_before}
use Rattle.trace_relations.specs.Relations.{PlainRelations}

-- the earlier of two moments, of which each may be none
abbrev pub earlier_moment : Option Moment → Option Moment → Option Moment
earlier_moment None second = second
earlier_moment (Some first) None = Some first
earlier_moment (Some first) (Some second) = if is_before second first then Some second else Some first

-- when the caller ended that gave a span up
abbrev pub callers_end : PlainRelations → ℕ → Option Moment
callers_end relations place = option_and_then (λ caller. end_moment (interval_at relations.intervals caller)) (parent_at relations.given_up place)

-- when the first caller ended that gave one of spans up
abbrev pub earliest_end : PlainRelations → List ℕ → Option Moment
earliest_end relations places = fold (λ so_far place. earlier_moment so_far (callers_end relations place)) None places

-- when the first caller ended that gave up a call in which a span lies: the span itself, or one above it
abbrev pub bound : PlainRelations → ℕ → Option Moment
bound relations place = earliest_end relations (place ∷ ancestors relations.parents place)

abbrev pub is_bounded : Interval → Option Moment → Bool
is_bounded interval None = true
is_bounded interval (Some moment) = ended_before interval moment
