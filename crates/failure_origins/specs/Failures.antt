-- The exceptions that arose in the stages of a graph: in which stage each arose, which others hold it, and which have read it and do not hold it.
use Rattle.std.specs.Prelude.{ℕ, Bool, false, not, ◌&&◌, ◌==◌, List, map, filter, Option, Some, None, is_some}
use Rattle.std.specs.List.{list_any}
use Rattle.stage_graph.specs.Plain.{PlainGraph, stage_at, all_places}
use Rattle.stage_ops.specs.declared.state.Done.{Done}
use Rattle.stage_ops.specs.Java.{java_step}
use Rattle.stage_ops.specs.Sources.{is_exceptional}
use Rattle.scratch_eval.specs.Blame.{chain}
use Rattle.rank_order.specs.Lists.{is_among}
use Rattle.propagate.specs.Reach.{reads_at}
use Rattle.version_store.specs.Queries.{state_of}
use Rattle.failure_origins.specs.declared.failure.Failure.{Failure}

-- a completion by an exception that no source is blamed for
abbrev pub arises_in : Option Done → Bool
arises_in None = false
arises_in (Some done) = is_exceptional done.outcome && not (is_some done.from)

-- an exception arose in the live stage at the place
abbrev pub is_origin : PlainGraph → ℕ → Bool
is_origin graph place = is_some (stage_at graph.places place) && arises_in (state_of graph place).done

-- the chain of blame of the stage at a place
abbrev pub blame_of : PlainGraph → ℕ → List ℕ
blame_of graph place = chain (java_step graph.mode) graph.places place

-- the stage at the place holds the exception that arose at the origin
abbrev pub holds : PlainGraph → ℕ → ℕ → Bool
holds graph origin place = is_among origin (blame_of graph place)

-- another stage than the origin holds it
abbrev pub is_reached : PlainGraph → ℕ → ℕ → Bool
is_reached graph origin place = not (place == origin) && holds graph origin place

-- the stage at the place has read a stage that holds it, and does not hold it itself
abbrev pub handles : PlainGraph → ℕ → ℕ → Bool
handles graph origin place = list_any (holds graph origin) (reads_at (java_step graph.mode) graph.places place) && not (holds graph origin place)

-- what became of the exception that arose at a place, each list in the order of its places
abbrev pub failure_at : PlainGraph → ℕ → Failure
failure_at graph origin = record {
  origin = origin;
  reaches = filter (is_reached graph origin) (all_places graph.places);
  handled = filter (handles graph origin) (all_places graph.places);
}

-- all of them, by the places where they arose
abbrev pub failures : PlainGraph → List Failure
failures graph = map (failure_at graph) (filter (is_origin graph) (all_places graph.places))
