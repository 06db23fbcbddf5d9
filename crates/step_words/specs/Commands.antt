-- The words by which lines begin.
use Rattle.std.specs.Prelude.{ℕ, codes, List, [], ◌∷◌, Option, Some, None, Result, Ok, Err}
use Rattle.recording.specs.Tables.{beside}
use Rattle.step_words.specs.declared.command.Command.{Command}
use Rattle.step_words.specs.declared.command.Command.TheVariants.{Why, Blame, Sweep, Stages, Times, Changes, Drift, Diff, Set, Pin, Try, Undo, Versions, Ends, Failures, Save, Help, Quit}
use Rattle.step_words.specs.declared.mistake.Mistake.{Mistake}
use Rattle.step_words.specs.declared.mistake.Mistake.TheVariants.{NoCommand}

abbrev pub command_text : Command → List ℕ
command_text Why = codes "why"
command_text Blame = codes "blame"
command_text Sweep = codes "sweep"
command_text Stages = codes "stages"
command_text Times = codes "times"
command_text Changes = codes "changes"
command_text Drift = codes "drift"
command_text Diff = codes "diff"
command_text Set = codes "set"
command_text Pin = codes "pin"
command_text Try = codes "try"
command_text Undo = codes "undo"
command_text Versions = codes "versions"
command_text Ends = codes "ends"
command_text Failures = codes "failures"
command_text Save = codes "save"
command_text Help = codes "help"
command_text Quit = codes "quit"

abbrev pub command_rows : List (List ℕ × Command)
command_rows =
    (codes "why", Why) ∷ (codes "blame", Blame) ∷ (codes "sweep", Sweep) ∷ (codes "stages", Stages) ∷ (codes "times", Times)
    ∷ (codes "changes", Changes) ∷ (codes "drift", Drift) ∷ (codes "diff", Diff) ∷ (codes "set", Set) ∷ (codes "pin", Pin)
    ∷ (codes "try", Try) ∷ (codes "undo", Undo) ∷ (codes "versions", Versions) ∷ (codes "ends", Ends) ∷ (codes "failures", Failures)
    ∷ (codes "save", Save) ∷ (codes "help", Help) ∷ (codes "quit", Quit) ∷ []

-- the command that a word is for, by the whole word
abbrev pub command_named : List ℕ → Option Command
command_named word = beside command_rows word

abbrev pub or_no_command : Option Command → Result Command Mistake
or_no_command None = Err NoCommand
or_no_command (Some command) = Ok command

abbrev pub command_in : List ℕ → Result Command Mistake
command_in word = or_no_command (command_named word)
