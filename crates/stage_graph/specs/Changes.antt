-- The graph that a list of edits makes of a plain graph, or its first refusal, and the results by which the code answers it.
use Rattle.std.specs.Prelude.{ℕ, ◌+◌, ◌≡◌, IsTrue, Bool, false, List, [], ◌∷◌, Option, Some, None, slice_index, Result, Ok, Err}
use Rattle.std.specs.List.{list_any}
use Rattle.std.specs.Str.{bytes_eq}
use Rattle.stage_graph.specs.declared.stage.Stage.{Stage}
use Rattle.stage_graph.specs.declared.edit.Edit.{Edit}
use Rattle.stage_graph.specs.declared.edit.Edit.TheVariants.{PinResult, PinMoment, SetTimes, SetAction, SetEnds, Add, Remove, Rewire}
use Rattle.stage_graph.specs.declared.fault.Refusal.{Refusal}
use Rattle.stage_graph.specs.declared.fault.Refused.{Refused}
use Rattle.stage_graph.specs.declared.fault.Fault.{Fault}
use Rattle.stage_graph.specs.declared.fault.Fault.TheVariants.{Refused as RefusedAt, Cycle, Memory}
use Rattle.stage_graph.specs.Plain.{PlainGraph, stage_at}
use Rattle.stage_graph.specs.Edits.{edited}
use Rattle.stage_graph.specs.Walk.{IsRanked}
use Rattle.stage_graph.specs.Order.{IsClosedWalk}

-- what comes next on the graph, or the refusal with its edit's index
abbrev pub then_on : ℕ → Result PlainGraph Refusal → (PlainGraph → Result PlainGraph Refused) → Result PlainGraph Refused
then_on index (Ok graph) next = next graph
then_on index (Err refusal) next = Err (record { at = index; refusal = refusal })

-- each edit on the graph that the earlier ones leave, where the first of them has this index
abbrev pub changed_from : ℕ → List Edit → PlainGraph → Result PlainGraph Refused
changed_from index [] graph = Ok graph
changed_from index (edit ∷ edits) graph = then_on index (edited edit graph) (changed_from (index + 1) edits)

unfoldable pub changed : List Edit → PlainGraph → Result PlainGraph Refused
changed edits graph = changed_from 0 edits graph

-- the result is the answer without the check for cycles, or out of memory
abbrev pub IsChanged : Result PlainGraph Fault → Result PlainGraph Refused → Type 0
IsChanged (Ok graph) answer = answer ≡ Ok graph
IsChanged (Err (RefusedAt refused)) answer = answer ≡ Err refused
IsChanged (Err (Cycle path)) answer = ⊥
IsChanged (Err Memory) answer = Unit {0}

-- the name of the edit's stage: the one that it changes, adds or removes
abbrev pub edited_name : Edit → List ℕ
edited_name (PinResult name result) = name
edited_name (PinMoment name moment) = name
edited_name (SetTimes name queued runs) = name
edited_name (SetAction name action) = name
edited_name (SetEnds name ends) = name
edited_name (Add spec) = spec.name
edited_name (Remove name) = name
edited_name (Rewire name sources inner) = name

-- some edit of the list names this stage
abbrev pub is_edited : List Edit → Option Stage → Bool
is_edited edits None = false
is_edited edits (Some stage) = list_any (λ edit. bytes_eq (edited_name edit) stage.name) edits

-- the edit adds or rewires a stage of the name
abbrev pub moves : List ℕ → Edit → Bool
moves name (Add spec) = bytes_eq spec.name name
moves name (Rewire other sources inner) = bytes_eq other name
moves name others = false

-- some edit of the list adds or rewires the stage
abbrev pub is_moved : List Edit → Option Stage → Bool
is_moved edits None = false
is_moved edits (Some stage) = list_any (moves stage.name) edits

-- a closed walk that begins and ends at a stage which the list adds or rewires
abbrev pub IsNewCycle : List Edit → List (Option Stage) → List ℕ → Type 0
IsNewCycle edits places path = IsClosedWalk places path × IsTrue (is_moved edits (stage_at places (slice_index path 0)))

-- the result is the answer with a last check for cycles, or out of memory
abbrev pub IsSettled : (List (Option Stage) → List ℕ → Type 0) → Result PlainGraph Fault → Result PlainGraph Refused → Type 0
IsSettled IsCycle (Ok graph) answer = (answer ≡ Ok graph) × IsRanked graph.places
IsSettled IsCycle (Err (RefusedAt refused)) answer = answer ≡ Err refused
IsSettled IsCycle (Err (Cycle path)) answer = (graph : PlainGraph) × (answer ≡ Ok graph) × IsCycle graph.places path
IsSettled IsCycle (Err Memory) answer = Unit {0}
