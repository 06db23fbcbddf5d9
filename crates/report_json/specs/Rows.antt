-- The rows of reports as JSON objects. A moment is null while the stage is pending, and so is its outcome.
use Rattle.std.specs.Prelude.{ℕ, List, [], ◌∷◌, Option, None, Some, codes, map}
use Rattle.act_expr.specs.declared.outcome.Outcome.{Outcome}
use Rattle.act_expr.specs.declared.outcome.Outcome.TheVariants as came_to
use Rattle.stage_ends.specs.declared.fate.Fate.{Fate}
use Rattle.stage_ends.specs.declared.fate.Fate.TheVariants.{Struck, CutOff, NotReached, TooLate}
use Rattle.stage_graph.specs.Texts.{op_text}
use Rattle.serde_json.specs.Data.{Data, null}
use Rattle.report_rows.specs.declared.because.Because.{Because}
use Rattle.report_rows.specs.declared.because.Because.TheVariants.{Created, After, Inner, Pinned, Ended, Waiting, Open}
use Rattle.report_rows.specs.declared.in_run.InRun.{InRun}
use Rattle.report_rows.specs.declared.row.Row.{Row}
use Rattle.report_rows.specs.declared.row.Row.TheVariants as a_row
use Rattle.report_rows.specs.declared.shift.Shift.{Shift}
use Rattle.report_rows.specs.declared.shift.Shift.TheVariants.{Later, Earlier}
use Rattle.report_rows.specs.declared.standing.Standing.{Standing}
use Rattle.report_rows.specs.declared.standing.Standing.TheVariants.{Absent, Pending, Completed}
use Rattle.report_rows.specs.Rows.{latest_start}
use Rattle.report_json.specs.Changes.{tried_members}
use Rattle.report_json.specs.Json.{NamedValues, text, count, optional, list, object, outcome_json, value_json}

-- ---- what a stage is

abbrev pub outcome_in : Standing → Option Outcome
outcome_in Absent = None
outcome_in Pending = None
outcome_in (Completed outcome moment) = Some outcome

abbrev pub moment_in : Standing → Option ℕ
moment_in Absent = None
moment_in Pending = None
moment_in (Completed outcome moment) = Some moment

abbrev pub standing_members : Standing → NamedValues
standing_members standing = (codes "outcome", optional outcome_json (outcome_in standing)) ∷ (codes "moment", optional count (moment_in standing)) ∷ []

-- null where the version has no such stage
abbrev pub standing_json : Standing → Data
standing_json Absent = null
standing_json Pending = object (standing_members Pending)
standing_json (Completed outcome moment) = object (standing_members (Completed outcome moment))

-- ---- why it completed when it did, or why it is pending

-- KIND, and the stage that it names
abbrev pub kind_of_stage : List ℕ → List ℕ → NamedValues
kind_of_stage kind name = (codes "kind", text kind) ∷ (codes "stage", text name) ∷ []

abbrev pub because_members : Because → NamedValues
because_members (Created tick) = (codes "kind", text (codes "created")) ∷ (codes "at", count tick) ∷ []
because_members (After name) = kind_of_stage (codes "after") name
because_members (Inner name) = kind_of_stage (codes "inner") name
because_members Pinned = (codes "kind", text (codes "pinned")) ∷ []
because_members (Ended kind) = (codes "kind", text (codes "ended")) ∷ (codes "by", text kind) ∷ []
because_members (Waiting name) = kind_of_stage (codes "waits") name
because_members Open = (codes "kind", text (codes "open")) ∷ []

-- ---- how much later or earlier

abbrev pub shift_members : List ℕ → Shift → NamedValues
shift_members name (Later ticks) = (codes "name", text name) ∷ (codes "later", count ticks) ∷ []
shift_members name (Earlier ticks) = (codes "name", text name) ∷ (codes "earlier", count ticks) ∷ []

-- ---- names of stages

abbrev pub names_json : List (List ℕ) → Data
names_json names = list (map text names)

-- ---- what became of an end

abbrev pub fate_members : Fate → NamedValues
fate_members Struck = (codes "kind", text (codes "struck")) ∷ []
fate_members (CutOff ran of) = (codes "kind", text (codes "cutOff")) ∷ (codes "ran", count ran) ∷ (codes "of", count of) ∷ []
fate_members (NotReached by) = (codes "kind", text (codes "notReached")) ∷ (codes "by", count by) ∷ []
fate_members (TooLate by) = (codes "kind", text (codes "tooLate")) ∷ (codes "by", count by) ∷ []

-- ---- an exception

-- null for a value
abbrev pub exception_json : Outcome → Data
exception_json (came_to.Value value) = null
exception_json (came_to.Bare name) = text name
exception_json (came_to.Wrapped name) = text name

-- ---- what a stage is in one of two runs

abbrev pub own_members : ℕ → ℕ → Standing → NamedValues
own_members queued ran standing = (codes "queued", count queued) ∷ (codes "ran", count ran) ∷ standing_members standing

abbrev pub in_run_json : InRun → Data
in_run_json run = object (own_members run.queued run.ran run.standing)

-- ---- rows

abbrev pub row_members : Row → NamedValues
row_members (a_row.State name op rank standing) =
    (codes "name", text name) ∷
    (codes "op", text (op_text op)) ∷
    (codes "rank", count rank) ∷
    standing_members standing
row_members (a_row.Times name start queued runs) =
    (codes "name", text name) ∷
    (codes "start", optional count start) ∷
    (codes "queued", count queued) ∷
    (codes "runs", count runs) ∷ []
row_members (a_row.Step name moment queued ran because) =
    (codes "name", text name) ∷
    (codes "moment", optional count moment) ∷
    (codes "queued", count queued) ∷
    (codes "ran", count ran) ∷
    (codes "cause", object (because_members because)) ∷ []
row_members (a_row.Change name old new) =
    (codes "name", text name) ∷
    (codes "old", standing_json old) ∷
    (codes "new", standing_json new) ∷ []
row_members (a_row.Shift name shift) = shift_members name shift
row_members (a_row.End name kind delay moment fate) =
    (codes "name", text name) ∷
    (codes "do", text kind) ∷
    (codes "delay", optional count delay) ∷
    (codes "moment", count moment) ∷
    (codes "fate", object (fate_members fate)) ∷ []
row_members (a_row.Failure name standing reaches handled) =
    (codes "name", text name) ∷
    (codes "exception", optional exception_json (outcome_in standing)) ∷
    (codes "moment", optional count (moment_in standing)) ∷
    (codes "reaches", names_json reaches) ∷
    (codes "handled", names_json handled) ∷ []
row_members (a_row.Trial name sooner outcome moment) =
    (codes "stage", text name) ∷
    (codes "sooner", count sooner) ∷
    (codes "outcome", outcome_json outcome) ∷
    (codes "moment", count moment) ∷ []
row_members (a_row.Slack name slack start) =
    (codes "name", text name) ∷
    (codes "slack", optional count slack) ∷
    (codes "start", count start) ∷
    (codes "latest", optional count (latest_start start slack)) ∷ []
row_members (a_row.Rescue name change value moment) =
    (codes "name", text name) ∷
    (codes "change", object (tried_members change)) ∷
    (codes "value", value_json value) ∷
    (codes "moment", count moment) ∷ []
row_members (a_row.Differs name good bad) =
    (codes "name", text name) ∷
    (codes "good", in_run_json good) ∷
    (codes "bad", in_run_json bad) ∷ []
row_members (a_row.OnlyInGood name good) =
    (codes "name", text name) ∷
    (codes "good", in_run_json good) ∷
    (codes "bad", null) ∷ []
row_members (a_row.OnlyInBad name bad) =
    (codes "name", text name) ∷
    (codes "good", null) ∷
    (codes "bad", in_run_json bad) ∷ []

abbrev pub row_json : Row → Data
row_json row = object (row_members row)

abbrev pub rows_json : List Row → Data
rows_json rows = list (map row_json rows)
