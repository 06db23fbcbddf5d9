-- The edits that changes are of a graph, in order, each of the graph as the former ones leave it.
use Rattle.std.specs.Prelude.{ℕ, ◌+◌, ◌≡◌, nat_le, if◌then◌else◌, List, [], ◌∷◌, ◌++◌, length, Option, Some, None, Result, Ok, Err, Vec, sum_by}
use Rattle.std.specs.Global.{Global}
use Rattle.stage_graph.specs.declared.edit.Edit.{Edit}
use Rattle.stage_graph.specs.declared.fault.ListSize.{ListSize as NotListed}
use Rattle.stage_graph.specs.declared.fault.Refusal.TheVariants.{NoStage}
use Rattle.stage_graph.specs.declared.fault.Refused.{Refused as RefusedEdit}
use Rattle.stage_graph.specs.declared.stage.Stage.{Stage}
use Rattle.stage_graph.specs.Changes.{changed}
use Rattle.stage_graph.specs.EditLists.{edit_list}
use Rattle.stage_graph.specs.Plain.{PlainGraph, stage_named}
use Rattle.change_words.specs.declared.change.Change.{Change}
use Rattle.change_words.specs.declared.fault.MakingFault.{MakingFault}
use Rattle.change_words.specs.declared.fault.MakingFault.TheVariants.{Refused, NotOneTimeout, ListSize, Memory}
use Rattle.change_words.specs.Changes.{edit_count}
use Rattle.change_words.specs.OwnEdits.{ends_edits, own_before_ends}
use Rattle.change_words.specs.Results.{then_on}

-- the edits so far, and the graph that they make
pub record Made : Type 0 where
  pub edits : List Edit
  pub graph : PlainGraph

abbrev pub or_list_size : Result (List Edit) NotListed → Result (List Edit) MakingFault
or_list_size (Ok edits) = Ok edits
or_list_size (Err fault) = Err ListSize

-- 1 to 64 edits
abbrev pub listed : List Edit → Result (List Edit) MakingFault
listed edits = or_list_size (edit_list edits)

-- the edits of a stage, or that it hasn't one timeout, by the index that the edit of its ends would have
abbrev pub own_edits_of : ℕ → List Edit → Result (List Edit) ℕ → Result (List Edit) MakingFault
own_edits_of at front (Ok more) = Ok (front ++ more)
own_edits_of at front (Err count) = Err (NotOneTimeout (at + length front) count)

-- the edits that a change is of the stage of its name, where so many came before
abbrev pub own_edits : Change → ℕ → Option Stage → Result (List Edit) MakingFault
own_edits change at None = Err (Refused (record { at = at; refusal = NoStage }))
own_edits change at (Some stage) = own_edits_of at (own_before_ends change stage) (ends_edits change stage)

-- the graph, or the refused edit by its index where so many came before
abbrev pub refused_after : ℕ → Result PlainGraph RefusedEdit → Result PlainGraph MakingFault
refused_after before (Ok graph) = Ok graph
refused_after before (Err refused) = Err (Refused (record { at = before + refused.at; refusal = refused.refusal }))

-- these edits, and this graph
abbrev pub made_at : List Edit → PlainGraph → Result Made MakingFault
made_at edits graph = Ok (record { edits = edits; graph = graph })

abbrev pub made_with : Made → List Edit → Result Made MakingFault
made_with made own = then_on (refused_after (length made.edits) (changed own made.graph)) (made_at (made.edits ++ own))

-- the edits with those of one more change, and the graph that they make
abbrev pub made_by : Change → Made → Result Made MakingFault
made_by change made =
    then_on (then_on (own_edits change (length made.edits) (stage_named made.graph.places change.name)) listed) (made_with made)

abbrev pub made_of : List Change → Made → Result Made MakingFault
made_of [] made = Ok made
made_of (change ∷ changes) made = then_on (made_by change made) (made_of changes)

abbrev pub listed_of : Made → Result (List Edit) MakingFault
listed_of made = listed made.edits

-- the edits of all changes, 1 to 64
abbrev pub edits_of : List Change → PlainGraph → Result (List Edit) MakingFault
edits_of changes graph =
    if nat_le (sum_by edit_count changes) 64
    then then_on (made_of changes (record { edits = []; graph = graph })) listed_of
    else Err ListSize

-- the result is the answer, or out of memory
abbrev pub IsMade : {A : Type 0} → Result A MakingFault → Result A MakingFault → Type 0
IsMade (Ok edits) answer = answer ≡ Ok edits
IsMade (Err Memory) answer = Unit {0}
IsMade (Err fault) answer = answer ≡ Err fault

-- these edits were made, with some graph
abbrev pub MadeWith : List Edit → Result Made MakingFault → Type 0
MadeWith edits answer = (graph : PlainGraph) × (answer ≡ made_at edits graph)

-- the graph, with these edits by now, is the answer; or memory is out
abbrev pub IsStep : Result PlainGraph MakingFault → Result Made MakingFault → List Edit → Type 0
IsStep (Ok graph) answer edits = answer ≡ made_at edits graph
IsStep (Err Memory) answer edits = Unit {0}
IsStep (Err fault) answer edits = answer ≡ Err fault

-- the edits are those that were made; or memory is out
abbrev pub IsMadeOf : Result (Vec Edit Global) MakingFault → Result Made MakingFault → Type 0
IsMadeOf (Ok edits) answer = MadeWith edits.items answer
IsMadeOf (Err Memory) answer = Unit {0}
IsMadeOf (Err fault) answer = answer ≡ Err fault
