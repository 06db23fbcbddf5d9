-- How stages end.
use Rattle.std.specs.Prelude.{ℕ, List, [], ◌∷◌, ◌++◌, Bool, map, max, nat_eq, nat_lt, is_some, if◌then◌else◌, Option, Some, None, option_and_then, unwrap_or, Vec, slice_get, filter, fold}
use Rattle.std.specs.HashMap.{HashMap, get_by}
use Rattle.std.specs.declared.alloc.Global.{Global}
use Rattle.trace_relations.specs.Moments.{interval_at}
use Rattle.trace_stages.specs.Known.{PlainKnown, had_at, plain_known}
use Rattle.trace_stages.specs.declared.outcomes.Outcome.{Outcome}
use Rattle.trace_stages.specs.declared.outcomes.Sight.{Sight}
use Rattle.trace_stages.specs.declared.stage.Exception.{Exception}
use Rattle.trace_stages.specs.declared.walk.holding.OwnWork.{OwnWork}
use Rattle.trace_stages.specs.declared.walk.stage_id.StageId.{StageId}
use Rattle.trace_stages.specs.declared.walk.stage_id.StageId.TheVariants.{Start, Whole, Entry, Join, Work, Tried, Limit, Answer}

abbrev pub has_failed : Outcome → Bool
has_failed outcome = is_some outcome.failure

-- the earlier of two; of those at one tick, the first
abbrev pub earlier_of : Outcome → Option Outcome → Outcome
earlier_of first None = first
earlier_of first (Some second) = if nat_lt second.tick first.tick then second else first

abbrev pub earliest : List Outcome → Option Outcome
earliest [] = None
earliest (outcome ∷ outcomes) = Some (earlier_of outcome (earliest outcomes))

abbrev pub latest : List Outcome → ℕ
latest [] = 0
latest (outcome ∷ outcomes) = max outcome.tick (latest outcomes)

abbrev pub failure_of : Option Outcome → Option Exception
failure_of outcome = option_and_then (λ those. those.failure) outcome

-- a join ends with the latest of its sources, and fails with the earliest that failed
abbrev pub join_outcome : List Outcome → Outcome
join_outcome sources = record { tick = latest sources; failure = failure_of (earliest (filter has_failed sources)) }

-- what is known of stages: of spans, with which exceptions they fail, and how the joins of spans end
pub record PlainSight : Type 0 where
  pub known : PlainKnown
  pub failures : ℕ → Option Exception
  pub joins : List (List Outcome)

abbrev pub work_end : Option OwnWork → ℕ
work_end None = 0
work_end (Some work) = work.until

abbrev pub outcome_at : List Outcome → ℕ → Outcome
outcome_at outcomes number = unwrap_or (slice_get outcomes number) (record { tick = 0; failure = None })

-- how the joins of a span end, where those of other spans than these end so
abbrev pub outcomes_among : List (List Outcome) → List Outcome → ℕ → List Outcome
outcomes_among all own span = unwrap_or (slice_get all span) own

-- own work ends at its tick
abbrev pub work_outcome : PlainKnown → ℕ → ℕ → Outcome
work_outcome known span number = record { tick = work_end (slice_get (had_at known.hads span).works number); failure = None }

abbrev pub end_of : PlainSight → ℕ → Outcome
end_of sight place = record { tick = unwrap_or (interval_at sight.known.relations.intervals place).end 0; failure = sight.failures place }

-- a start is at the tick a, an end at b; what was tried again ends as its last attempt
abbrev pub outcome_of : PlainSight → List Outcome → StageId → Outcome
outcome_of sight own (Start place) = record { tick = (interval_at sight.known.relations.intervals place).start; failure = None }
outcome_of sight own (Whole place) = end_of sight place
outcome_of sight own (Limit place) = end_of sight place
outcome_of sight own (Answer place) = end_of sight place
outcome_of sight own (Tried place) = end_of sight (sight.known.relations.attempts.last place)
outcome_of sight own (Work span number) = work_outcome sight.known span number
outcome_of sight own (Entry span number) = outcome_at own number
outcome_of sight own (Join span number) = outcome_at (outcomes_among sight.joins own span) number

abbrev pub with_join : PlainSight → List Outcome → List StageId → List Outcome
with_join sight own sources = own ++ join_outcome (map (outcome_of sight own) sources) ∷ []

-- how joins end, of which later ones have earlier ones among their sources
abbrev pub join_outcomes : PlainSight → List (List StageId) → List Outcome
join_outcomes sight joins = fold (with_join sight) [] joins

abbrev pub first_of : Option Outcome → Outcome → Outcome
first_of None second = second
first_of (Some first) second = earlier_of first (Some second)

-- the earliest that failed, with one more source
abbrev pub with_failure : Option Outcome → Outcome → Option Outcome
with_failure failed source = if has_failed source then Some (first_of failed source) else failed

abbrev pub failing : {S : Type 0} → HashMap ℕ (Option Exception) S → ℕ → Option Exception
failing failures place = unwrap_or (get_by (nat_eq place) failures) None

abbrev pub plain_outcomes : List (Vec Outcome Global) → List (List Outcome)
plain_outcomes all = map (λ outcomes. outcomes.items) all

abbrev pub plain_sight : Sight → PlainSight
plain_sight sight = record { known = plain_known sight.known.now; failures = failing sight.failures.now; joins = plain_outcomes sight.joins.now }
