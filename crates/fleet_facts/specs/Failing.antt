-- What a stage failed by.
use Rattle.std.specs.Prelude.{ℕ, ◌-◌, List, length, Option, Some, None, slice_get, unwrap_or}
use Rattle.std.specs.Option.{option_and_then, option_map}
use Rattle.act_expr.specs.declared.outcome.Outcome.{Outcome}
use Rattle.act_expr.specs.declared.outcome.Outcome.TheVariants.{Value, Bare, Wrapped}
use Rattle.stage_graph.specs.Plain.{PlainGraph, name_of, stage_at}
use Rattle.failure_origins.specs.Failures.{blame_of}
use Rattle.version_store.specs.Queries.{outcome_in, state_of}
use Rattle.fleet_summary.specs.declared.facts.Failure.{Failure}
use Rattle.span_groups.specs.Grouping.{name_at}
use Rattle.span_groups.specs.declared.grouping.Grouping.{Grouping}

-- the exception, bare or wrapped
abbrev pub exception_of : Outcome → Option (List ℕ)
exception_of (Value value) = None
exception_of (Bare name) = Some name
exception_of (Wrapped name) = Some name

-- Where the exception of a stage arose. Each stage of its chain of blame hands on what the next one holds, so that is the last one of them, which blames nobody.
abbrev pub origin_of : PlainGraph → ℕ → ℕ
origin_of graph place = unwrap_or (slice_get (blame_of graph place) (length (blame_of graph place) - 1)) place

-- the name of the group of the stage at a place, or its own where it counts to none
abbrev pub group_name_at : PlainGraph → Grouping → ℕ → List ℕ
group_name_at graph grouping place = unwrap_or (name_at grouping place) (name_of (stage_at graph.places place))

abbrev pub failure_by : PlainGraph → Grouping → ℕ → List ℕ → Failure
failure_by graph grouping place exception = record { exception = exception; group = group_name_at graph grouping (origin_of graph place) }

-- the exception of the stage at a place, and the group in which it arose; none where it has a value or is pending
abbrev pub failure_at : PlainGraph → Grouping → ℕ → Option Failure
failure_at graph grouping place = option_map (failure_by graph grouping place) (option_and_then exception_of (outcome_in (state_of graph place)))
