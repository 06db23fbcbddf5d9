-- The live stages of a graph, in order, with names in place of places.
use Rattle.std.specs.Prelude.{ℕ, List, [], ◌∷◌, map, Option, Some, None}
use Rattle.stage_graph.specs.declared.stage.Stage.{Stage}
use Rattle.stage_graph.specs.declared.stage.Spec.{Spec}
use Rattle.stage_graph.specs.Plain.{PlainGraph, stage_at}

abbrev pub name_in : Option Stage → List ℕ
name_in None = []
name_in (Some stage) = stage.name

-- the name of the stage at a place
abbrev pub name_at : List (Option Stage) → ℕ → List ℕ
name_at places place = name_in (stage_at places place)

-- the stage, with the names of its feeds
abbrev pub named_stage : List (Option Stage) → Stage → Spec
named_stage places stage = record {
  name = stage.name;
  op = stage.op;
  sources = map (name_at places) stage.sources;
  inner = map (name_at places) stage.inner;
  created = stage.created;
  queued = stage.queued;
  runs = stage.runs;
  action = stage.action;
  pin_result = stage.pin_result;
  pin_moment = stage.pin_moment;
  ends = stage.ends;
}

-- the live stages among these; an empty place is left out
abbrev pub named_among : List (Option Stage) → List (Option Stage) → List Spec
named_among places [] = []
named_among places (None ∷ rest) = named_among places rest
named_among places (Some stage ∷ rest) = named_stage places stage ∷ named_among places rest

abbrev pub specs_of : PlainGraph → List Spec
specs_of graph = named_among graph.places graph.places
