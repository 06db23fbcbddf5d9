-- The result of applying a list of edits to a graph with its states.
use Rattle.std.specs.Prelude.{ℕ, ◌≡◌, ◌+◌, ◌≤◌, ◌⊎◌, List, length, Result, Ok, Err}
use Rattle.stage_graph.specs.declared.edit.Edit.{Edit}
use Rattle.stage_graph.specs.declared.fault.Refused.{Refused}
use Rattle.stage_graph.specs.Changes.{is_edited}
use Rattle.stage_graph.specs.Plain.{PlainGraph, stage_at}
use Rattle.stage_graph.specs.Walk.{IsRanked}
use Rattle.propagate.specs.Reach.{Stages, Step, touched}

-- the stages that a list of edits touches: those that the edits name, and those that read one of which dependents now see something else
abbrev pub touched_by : Step → List Edit → Stages → Stages → List ℕ
touched_by step edits old new = touched step old new (λ place. is_edited edits (stage_at new place))

-- the count where the change is refused: it stays, unless the changed graph is ranked, and then it rises by no more than the touched stages
abbrev pub IsCountOf : (PlainGraph → List ℕ) → Result PlainGraph Refused → ℕ → ℕ → Type 0
IsCountOf touches (Err refused) before after = after ≡ before
IsCountOf touches (Ok graph) before after = (after ≡ before) ⊎ (IsRanked graph.places × ((before ≤ after) × (after ≤ before + length (touches graph))))
