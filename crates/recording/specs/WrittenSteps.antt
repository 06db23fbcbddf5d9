-- The JSON values of steps.
use Rattle.std.specs.Prelude.{◌≡◌, ◌<◌, ◌≤◌, ◌^◌, ℕ, List, [], ◌∷◌, length, codes, Bool, true, false, Option, option_map, All, IfSome, Ok}
use Rattle.serde_json.specs.Data.{Data, string}
use Rattle.stage_graph.specs.declared.edit.Edit.{Edit}
use Rattle.stage_graph.specs.declared.edit.Edit.TheVariants.{PinResult, PinMoment, SetTimes, SetAction, SetEnds, Add, Remove, Rewire}
use Rattle.recording.specs.StepOf.{step_in}
use Rattle.recording.specs.Written.{written, IsWellFormed}
use Rattle.recording.specs.WrittenStages.{object_of, row, array_of, count, null_or, written_outcome, written_end, written_stage, IsOutcome, AreEnds, IsStage}
use Rattle.recording.specs.declared.stage.FormNumber.TheVariants.{Two}
use Rattle.recording.specs.declared.step.Asked.{Asked}
use Rattle.recording.specs.declared.step.Asked.TheVariants.{All as AllStages, One, Blame, Path, Sweep, Changes, Drift, Times, Recording}
use Rattle.recording.specs.declared.step.Subject.{Subject}
use Rattle.recording.specs.declared.step.Subject.TheVariants as subject
use Rattle.recording.specs.declared.step.Step.{Step}
use Rattle.recording.specs.declared.step.Step.TheVariants.{Open, Head, Undo, Close, Change, Report}

-- the members of an edit, `do` among them
abbrev pub edit_rows : Edit → List (List ℕ × Option Data)
edit_rows (PinResult stage result) =
    row (codes "do") (string (codes "pinResult")) ∷ row (codes "stage") (string stage) ∷ row (codes "result") (null_or written_outcome result) ∷ []
edit_rows (PinMoment stage moment) =
    row (codes "do") (string (codes "pinMoment")) ∷ row (codes "stage") (string stage) ∷ row (codes "at") (null_or count moment) ∷ []
edit_rows (SetTimes stage queued runs) =
    row (codes "do") (string (codes "setTimes")) ∷ row (codes "stage") (string stage) ∷ row (codes "queued") (count queued) ∷ row (codes "runs") (count runs) ∷ []
edit_rows (SetAction stage action) =
    row (codes "do") (string (codes "setAction")) ∷ row (codes "stage") (string stage) ∷ row (codes "action") (written action) ∷ []
edit_rows (SetEnds stage ends) =
    row (codes "do") (string (codes "setEnds")) ∷ row (codes "stage") (string stage) ∷ row (codes "ends") (array_of written_end ends) ∷ []
edit_rows (Add stage) =
    row (codes "do") (string (codes "add")) ∷ row (codes "new") (written_stage Two stage) ∷ []
edit_rows (Remove stage) =
    row (codes "do") (string (codes "remove")) ∷ row (codes "stage") (string stage) ∷ []
edit_rows (Rewire stage sources inner) =
    row (codes "do") (string (codes "rewire")) ∷ row (codes "stage") (string stage)
    ∷ row (codes "sources") (array_of string sources) ∷ row (codes "inner") (array_of string inner) ∷ []

abbrev pub written_edit : Edit → Data
written_edit edit = object_of (edit_rows edit)

-- the members with the new values
abbrev pub change_rows : List Edit → Bool → List (List ℕ × Option Data)
change_rows edits true = row (codes "do") (string (codes "edits")) ∷ row (codes "edits") (array_of written_edit edits) ∷ []
change_rows (edit ∷ []) false = edit_rows edit
change_rows others false = []

abbrev pub asked_rows : Asked → List (List ℕ × Option Data)
asked_rows AllStages = row (codes "what") (string (codes "all")) ∷ []
asked_rows (One stage) = row (codes "what") (string (codes "one")) ∷ row (codes "stage") (string stage) ∷ []
asked_rows (Blame stage) = row (codes "what") (string (codes "blame")) ∷ row (codes "stage") (string stage) ∷ []
asked_rows (Path stage) = row (codes "what") (string (codes "path")) ∷ row (codes "stage") (string stage) ∷ []
asked_rows (Sweep stage) = row (codes "what") (string (codes "sweep")) ∷ row (codes "stage") (string stage) ∷ []
asked_rows (Changes against) = row (codes "what") (string (codes "changes")) ∷ (codes "against", option_map count against) ∷ []
asked_rows (Drift against) = row (codes "what") (string (codes "drift")) ∷ (codes "against", option_map count against) ∷ []
asked_rows Times = row (codes "what") (string (codes "times")) ∷ []
asked_rows Recording = row (codes "what") (string (codes "recording")) ∷ []

abbrev pub subject_row : Subject → List ℕ × Option Data
subject_row (subject.Version version) = row (codes "version") (count version)
subject_row (subject.Head session) = row (codes "session") (count session)

abbrev pub step_rows : Step → List (List ℕ × Option Data)
step_rows (Open session version) =
    row (codes "do") (string (codes "open")) ∷ row (codes "session") (count session) ∷ row (codes "version") (count version) ∷ []
step_rows (Head session) = row (codes "do") (string (codes "head")) ∷ row (codes "session") (count session) ∷ []
step_rows (Undo session) = row (codes "do") (string (codes "undo")) ∷ row (codes "session") (count session) ∷ []
step_rows (Close session) = row (codes "do") (string (codes "close")) ∷ row (codes "session") (count session) ∷ []
step_rows (Change session base edits listed) =
    row (codes "session") (count session) ∷ (codes "base", option_map count base) ∷ change_rows edits listed
step_rows (Report subject asked) =
    row (codes "do") (string (codes "report")) ∷ subject_row subject ∷ asked_rows asked

abbrev pub written_step : Step → Data
written_step step = object_of (step_rows step)

-- ---- their numbers of sessions and versions have 32 bits, and their lists 1 to 64 edits

abbrev pub IsEdit : Edit → Type 0
IsEdit (PinResult stage result) = IfSome result IsOutcome
IsEdit (SetAction stage action) = IsWellFormed action
IsEdit (SetEnds stage ends) = AreEnds ends
IsEdit (Add stage) = IsStage Two stage
IsEdit others = Unit {0}

-- an edit that is not listed stands alone
abbrev pub IsListed : List Edit → Bool → Type 0
IsListed edits true = (1 ≤ length edits) × (length edits ≤ 64)
IsListed edits false = length edits ≡ 1

abbrev pub IsSubject : Subject → Type 0
IsSubject (subject.Version version) = version < 2 ^ 32
IsSubject (subject.Head session) = session < 2 ^ 32

abbrev pub IsAsked : Asked → Type 0
IsAsked (Changes against) = IfSome against (λ n. n < 2 ^ 32)
IsAsked (Drift against) = IfSome against (λ n. n < 2 ^ 32)
IsAsked others = Unit {0}

abbrev pub IsStep : Step → Type 0
IsStep (Open session version) = (session < 2 ^ 32) × (version < 2 ^ 32)
IsStep (Head session) = session < 2 ^ 32
IsStep (Undo session) = session < 2 ^ 32
IsStep (Close session) = session < 2 ^ 32
IsStep (Change session base edits listed) = (session < 2 ^ 32) × IfSome base (λ n. n < 2 ^ 32) × IsListed edits listed × All IsEdit edits
IsStep (Report subject asked) = IsSubject subject × IsAsked asked

-- each step can be read back from its JSON value
abbrev pub EachStepIsReadBack : Type 0
EachStepIsReadBack = (step : Step) → IsStep step → step_in (written_step step) ≡ Ok step
