-- What a line says to session 1.
use Rattle.std.specs.Prelude.{ℕ, ◌==◌, Bool, true, false, if◌then◌else◌, List, [], ◌∷◌, length, map, Option, Some, None, Result, Ok, Err}
use Rattle.std.specs.Str.{trim}
use Rattle.stage_graph.specs.declared.edit.Edit.{Edit}
use Rattle.stage_graph.specs.declared.stage.Stage.{Stage}
use Rattle.stage_graph.specs.Plain.{PlainGraph}
use Rattle.recording.specs.StepOf.{step_of}
use Rattle.recording.specs.declared.fault.Fault.{Fault}
use Rattle.recording.specs.declared.step.Asked.{Asked}
use Rattle.recording.specs.declared.step.Asked.TheVariants as asked
use Rattle.recording.specs.declared.step.Subject.TheVariants as subject
use Rattle.recording.specs.declared.step.Step.{Step}
use Rattle.recording.specs.declared.step.Step.TheVariants as step
use Rattle.change_words.specs.Results.{then_on}
use Rattle.step_words.specs.declared.command.Command.{Command}
use Rattle.step_words.specs.declared.command.Command.TheVariants as command
use Rattle.step_words.specs.declared.mistake.Mistake.{Mistake}
use Rattle.step_words.specs.declared.mistake.Mistake.TheVariants.{Missing, NoStage, NoStep, TooMany}
use Rattle.step_words.specs.declared.names.Like.TheVariants.{Part}
use Rattle.step_words.specs.declared.speaking.OfStage.{OfStage}
use Rattle.step_words.specs.declared.speaking.OfStage.TheVariants.{Path, Blame, Sweep}
use Rattle.step_words.specs.declared.spoken.Spoken.{Spoken}
use Rattle.step_words.specs.declared.spoken.Spoken.TheVariants as spoken
use Rattle.step_words.specs.Changing.{change_in, edits_in}
use Rattle.step_words.specs.Commands.{command_in}
use Rattle.step_words.specs.Cut.{first_word, other_words}
use Rattle.step_words.specs.Names.{names_like, stage_in}
use Rattle.step_words.specs.Numbers.{number_in}

abbrev pub session : ℕ
session = 1

-- ---- steps

abbrev pub of_one : Step → Spoken
of_one one = spoken.Steps (one ∷ [])

-- a report of the version at which the session stands
abbrev pub reported : Asked → Spoken
reported asked = of_one (step.Report (subject.Head session) asked)

abbrev pub asked_of : OfStage → List ℕ → Asked
asked_of Path name = asked.Path name
asked_of Blame name = asked.Blame name
asked_of Sweep name = asked.Sweep name

-- a report of the stage that a text names
abbrev pub of_stage : OfStage → List (Option Stage) → List ℕ → Result Spoken Mistake
of_stage report places text = then_on (stage_in places text) (λ name. Ok (reported (asked_of report name)))

-- nothing stands behind the command
abbrev pub alone : Spoken → List ℕ → Result Spoken Mistake
alone said text = if length text == 0 then Ok said else Err TooMany

-- by which stages a version differs from another one, and by which moments
abbrev pub difference : ℕ → ℕ → Spoken
difference from to =
    spoken.Steps (step.Report (subject.Version to) (asked.Changes (Some from)) ∷ step.Report (subject.Version to) (asked.Drift (Some from)) ∷ [])

abbrev pub differing : List ℕ → Result Spoken Mistake
differing text =
    if length text == 0 then Err Missing
    else then_on (number_in (first_word text)) (λ from. then_on (number_in (other_words text)) (λ to. Ok (difference from to)))

abbrev pub report_of_one : List ℕ → Step
report_of_one name = step.Report (subject.Head session) (asked.One name)

abbrev pub each_of : List (List ℕ) → List Step
each_of names = map report_of_one names

-- a report of each, if there are some
abbrev pub of_each : List (List ℕ) → Result Spoken Mistake
of_each names = if length names == 0 then Err NoStage else Ok (spoken.Steps (each_of names))

-- all stages, or those in whose names a text is
abbrev pub listed : List (Option Stage) → List ℕ → Result Spoken Mistake
listed places text = if length text == 0 then Ok (reported asked.All) else of_each (names_like Part text places)

abbrev pub edits_said : List Edit → Spoken
edits_said edits = of_one (step.Change session None edits true)

-- the edits of the version at which the session stands
abbrev pub to_set : PlainGraph → List ℕ → Result Spoken Mistake
to_set graph text = then_on (edits_in graph text) (λ edits. Ok (edits_said edits))

-- ---- commands

abbrev pub helped : List ℕ → Result Spoken Mistake
helped text = if length text == 0 then Ok (spoken.Help None) else then_on (command_in text) (λ command. Ok (spoken.Help (Some command)))

abbrev pub to_try : List (Option Stage) → List ℕ → Result Spoken Mistake
to_try places text = then_on (change_in places text) (λ change. Ok (spoken.Trial change))

-- what a command says with the words behind it
unfoldable pub spoken_by : Command → PlainGraph → List ℕ → Result Spoken Mistake
spoken_by command.Why graph text = of_stage Path graph.places text
spoken_by command.Blame graph text = of_stage Blame graph.places text
spoken_by command.Sweep graph text = of_stage Sweep graph.places text
spoken_by command.Stages graph text = listed graph.places text
spoken_by command.Times graph text = alone (reported asked.Times) text
spoken_by command.Changes graph text = alone (reported (asked.Changes None)) text
spoken_by command.Drift graph text = alone (reported (asked.Drift None)) text
spoken_by command.Diff graph text = differing text
spoken_by command.Set graph text = to_set graph text
spoken_by command.Pin graph text = to_set graph text
spoken_by command.Try graph text = to_try graph.places text
spoken_by command.Undo graph text = alone (of_one (step.Undo session)) text
spoken_by command.Versions graph text = alone spoken.Versions text
spoken_by command.Ends graph text = alone spoken.Ends text
spoken_by command.Failures graph text = alone spoken.Failures text
spoken_by command.Save graph text = alone spoken.Save text
spoken_by command.Help graph text = helped text
spoken_by command.Quit graph text = alone spoken.Quit text

-- ---- lines

abbrev pub is_json : List ℕ → Bool
is_json [] = false
is_json (x ∷ xs) = x == 123

abbrev pub or_no_step : Result Step Fault → Result Spoken Mistake
or_no_step (Ok one) = Ok (of_one one)
or_no_step (Err fault) = Err (NoStep fault)

-- the step that a text is as JSON, as that of a script
abbrev pub of_step : List ℕ → Result Spoken Mistake
of_step text = or_no_step (step_of text)

abbrev pub of_words : PlainGraph → List ℕ → Result Spoken Mistake
of_words graph text = then_on (command_in (first_word text)) (λ command. spoken_by command graph (other_words text))

abbrev pub spoken_in : PlainGraph → List ℕ → Result Spoken Mistake
spoken_in graph text =
    if length text == 0 then Ok spoken.Nothing
    else if is_json text then of_step text
    else of_words graph text

-- what a line says, where the version at which the session stands has the graph
abbrev pub spoken_of : PlainGraph → List ℕ → Result Spoken Mistake
spoken_of graph line = spoken_in graph (trim line)
