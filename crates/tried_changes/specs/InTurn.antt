-- The graph that changes make of one, one after the other.
use Rattle.std.specs.Prelude.{◌≡◌, List, [], ◌∷◌, Option, Some, None, Result, Ok, Err}
use Rattle.stage_graph.specs.declared.edit.Edit.{Edit}
use Rattle.stage_graph.specs.declared.fault.Refused.{Refused as RefusedEdit}
use Rattle.stage_graph.specs.Changes.{changed}
use Rattle.stage_graph.specs.Plain.{PlainGraph}
use Rattle.change_words.specs.declared.change.Change.{Change}
use Rattle.change_words.specs.declared.fault.MakingFault.{MakingFault}
use Rattle.change_words.specs.declared.fault.MakingFault.TheVariants.{Refused, Memory}
use Rattle.change_words.specs.Making.{edits_of}
use Rattle.change_words.specs.Results.{then_on}
use Rattle.version_store.specs.Plain.{PlainVersion}

-- the graph, or why an edit is refused
abbrev pub or_refused : Result PlainGraph RefusedEdit → Result PlainGraph MakingFault
or_refused (Ok graph) = Ok graph
or_refused (Err refused) = Err (Refused refused)

-- the graph that edits make of one
abbrev pub edited_by : PlainGraph → List Edit → Result PlainGraph MakingFault
edited_by graph edits = or_refused (changed edits graph)

-- the graph that one change makes of another
abbrev pub made_by : Change → PlainGraph → Result PlainGraph MakingFault
made_by change graph = then_on (edits_of (change ∷ []) graph) (edited_by graph)

-- each change made of the graph as the former ones leave it
abbrev pub made_in_turn : List Change → PlainGraph → Result PlainGraph MakingFault
made_in_turn [] graph = Ok graph
made_in_turn (change ∷ changes) graph = then_on (made_by change graph) (made_in_turn changes)

-- the version has the graph that is the answer; or the fault is the answer, or memory is out
abbrev pub IsOfGraph : Result PlainVersion MakingFault → Result PlainGraph MakingFault → Type 0
IsOfGraph (Ok made) answer = answer ≡ Ok made.graph
IsOfGraph (Err Memory) answer = Unit {0}
IsOfGraph (Err fault) answer = answer ≡ Err fault

abbrev pub IsMadeAlone : PlainGraph → Change → Result PlainVersion MakingFault → Type 0
IsMadeAlone graph change result = IsOfGraph result (made_by change graph)

abbrev pub IsMadeFirst : PlainGraph → List Change → Result PlainVersion MakingFault → Type 0
IsMadeFirst graph changes result = IsOfGraph result (made_in_turn changes graph)

-- the version has the graph that the changes make in turn, or there is no change
abbrev pub IsMadeInTurn : PlainGraph → List Change → Result (Option PlainVersion) MakingFault → Type 0
IsMadeInTurn graph changes (Ok None) = made_in_turn changes graph ≡ Ok graph
IsMadeInTurn graph changes (Ok (Some made)) = made_in_turn changes graph ≡ Ok made.graph
IsMadeInTurn graph changes (Err Memory) = Unit {0}
IsMadeInTurn graph changes (Err fault) = made_in_turn changes graph ≡ Err fault
