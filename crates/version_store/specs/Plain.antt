-- Plain versions: what a version holds, with nothing that is kept beside it.
use Rattle.std.specs.Prelude.{ℕ, List, Option, Some, None}
use Rattle.stage_graph.specs.declared.edit.Edit.{Edit}
use Rattle.stage_graph.specs.Plain.{PlainGraph}

-- where a version comes from: its parent, by number and graph, and the list of edits that was applied to it
pub record Origin : Type 0 where
  pub number : ℕ
  pub graph : PlainGraph
  pub edits : List Edit

-- a graph under its number; version 0 has no origin
pub record PlainVersion : Type 0 where
  pub number : ℕ
  pub graph : PlainGraph
  pub origin : Option Origin

abbrev pub parent_in : Option Origin → Option ℕ
parent_in None = None
parent_in (Some origin) = Some origin.number

-- the number of the version's parent, if it has one
abbrev pub parent_of : PlainVersion → Option ℕ
parent_of version = parent_in version.origin

-- a version's graph with edits applied, which has no number yet
pub record PlainDraft : Type 0 where
  pub origin : Origin
  pub graph : PlainGraph

-- the draft as the version of a number
abbrev pub numbered : PlainDraft → ℕ → PlainVersion
numbered draft number = record { number = number; graph = draft.graph; origin = Some draft.origin }

-- a graph as version 0
abbrev pub opening_version : PlainGraph → PlainVersion
opening_version graph = record { number = 0; graph = graph; origin = None }
