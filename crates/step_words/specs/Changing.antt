-- Changes and edits, as the words of a line say them.
use Rattle.std.specs.Prelude.{ℕ, ◌==◌, if◌then◌else◌, List, [], ◌∷◌, length, Option, Result, Ok, Err}
use Rattle.stage_graph.specs.declared.edit.Edit.{Edit}
use Rattle.stage_graph.specs.declared.stage.Stage.{Stage}
use Rattle.stage_graph.specs.Plain.{PlainGraph}
use Rattle.change_words.specs.declared.change.Change.{Change}
use Rattle.change_words.specs.declared.fault.MakingFault.{MakingFault}
use Rattle.change_words.specs.Changes.{WrongPart, change_of}
use Rattle.change_words.specs.Making.{edits_of}
use Rattle.change_words.specs.Results.{then_on}
use Rattle.step_words.specs.declared.mistake.Mistake.{Mistake}
use Rattle.step_words.specs.declared.mistake.Mistake.TheVariants.{Missing, NoChange, NotMade}
use Rattle.step_words.specs.Names.{stage_in}

abbrev pub or_no_change : Result Change WrongPart → Result Change Mistake
or_no_change (Ok change) = Ok change
or_no_change (Err wrong) = Err NoChange

-- the change that a text is, as a word of a command line
abbrev pub change_read : List ℕ → Result Change Mistake
change_read text = or_no_change (change_of text)

-- the change, of the stage that its name names
abbrev pub with_stage : List (Option Stage) → Change → Result Change Mistake
with_stage places change = then_on (stage_in places change.name) (λ name. Ok (record change { name = name }))

abbrev pub change_in : List (Option Stage) → List ℕ → Result Change Mistake
change_in places text = if length text == 0 then Err Missing else then_on (change_read text) (with_stage places)

abbrev pub or_not_made : Result (List Edit) MakingFault → Result (List Edit) Mistake
or_not_made (Ok edits) = Ok edits
or_not_made (Err fault) = Err (NotMade fault)

abbrev pub edits_made : List Change → PlainGraph → Result (List Edit) Mistake
edits_made changes graph = or_not_made (edits_of changes graph)

-- the edits that the change of a text is of a graph
abbrev pub edits_in : PlainGraph → List ℕ → Result (List Edit) Mistake
edits_in graph text = then_on (change_in graph.places text) (λ change. edits_made (change ∷ []) graph)
