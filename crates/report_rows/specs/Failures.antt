-- The rows of the exceptions that arose in stages.
use Rattle.std.specs.Prelude.{ℕ, Bool, true, List, [], Option, None, Some, ◌==◌, ◌&&◌, ◌||◌, filter_map, nat_le, if◌then◌else◌}
use Rattle.std.specs.List.{list_any}
use Rattle.std.specs.Option.{option_map}
use Rattle.stage_graph.specs.Plain.{PlainGraph, stage_at}
use Rattle.rank_order.specs.Lists.{is_among}
use Rattle.scratch_eval.specs.Path.{path}
use Rattle.version_store.specs.Queries.{moment_in, state_of}
use Rattle.failure_origins.specs.declared.failure.Failure.{Failure}
use Rattle.failure_origins.specs.Failures.{failures}
use Rattle.report_rows.specs.declared.arisen.Arisen.{Arisen}
use Rattle.report_rows.specs.declared.arisen.Arisen.TheVariants.{Anywhere, In, Beside}
use Rattle.report_rows.specs.declared.named_failure.NamedFailure.{NamedFailure}
use Rattle.report_rows.specs.declared.row.Row.{Row}
use Rattle.report_rows.specs.declared.row.Row.TheVariants as a_row
use Rattle.report_rows.specs.Rows.{failure_row}

-- one of these places is among those
abbrev pub have_common : List ℕ → List ℕ → Bool
have_common places others = list_any (λ place. is_among place others) places

-- it arose in a stage of the path, reaches one, or is handled by one
abbrev pub meets : List ℕ → Failure → Bool
meets path failure = is_among failure.origin path || (have_common failure.reaches path || have_common failure.handled path)

-- not later, where both have a moment
abbrev pub is_by : Option ℕ → Option ℕ → Bool
is_by None last = true
is_by (Some moment) None = true
is_by (Some moment) (Some last) = nat_le moment last

-- it arose no later than the stage at the place completed
abbrev pub arose_by : PlainGraph → ℕ → Failure → Bool
arose_by graph place failure = is_by (moment_in (state_of graph failure.origin)) (moment_in (state_of graph place))

-- the path that exceptions have to meet, where they have to
abbrev pub path_asked : PlainGraph → Arisen → List ℕ
path_asked graph Anywhere = []
path_asked graph (In origin) = []
path_asked graph (Beside place) = path graph place

-- whether it is asked for
abbrev pub is_asked : PlainGraph → Arisen → Failure → Bool
is_asked graph Anywhere failure = true
is_asked graph (In origin) failure = failure.origin == origin
is_asked graph (Beside place) failure = arose_by graph place failure && meets (path graph place) failure

-- the row of an exception; none where it is not asked for
abbrev pub failure_row_at : PlainGraph → Arisen → Failure → Option Row
failure_row_at graph arisen failure =
    if is_asked graph arisen failure then option_map (failure_row graph failure) (stage_at graph.places failure.origin) else None

abbrev pub failure_rows : PlainGraph → Arisen → List Row
failure_rows graph arisen = filter_map (failure_row_at graph arisen) (failures graph)

-- the row that is kept with its names
abbrev pub named_row : NamedFailure → Row
named_row failure = a_row.Failure failure.name failure.standing failure.reaches failure.handled
