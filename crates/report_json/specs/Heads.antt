-- What a report says, as a JSON object. Its members stand in the order of their names, in two parts: `line`, where it answers one, stands between them.
use Rattle.std.specs.Prelude.{ℕ, List, [], ◌∷◌, ◌++◌, Option, None, Some, codes, map}
use Rattle.act_expr.specs.declared.outcome.Outcome.{Outcome}
use Rattle.stage_graph.specs.declared.op.Op.{Op}
use Rattle.stage_graph.specs.Texts.{op_text}
use Rattle.stage_ops.specs.declared.state.Join.{Join}
use Rattle.stage_ops.specs.declared.state.Join.TheVariants.{Waits, Returns, Cancelled, Throws}
use Rattle.serde_json.specs.Data.{Data, null}
use Rattle.report_rows.specs.declared.head.Head.{Head}
use Rattle.report_rows.specs.declared.head.Head.TheVariants.{All, Times, One, Blame, Path, Change, Changes, Drift, ChangesAgainst, DriftAgainst, Ends, Failures, Sweep, Slack, Rescue, Differences}
use Rattle.report_rows.specs.declared.row.Row.{Row}
use Rattle.report_rows.specs.declared.standing.Standing.{Standing}
use Rattle.report_rows.specs.Modes.{mode_text}
use Rattle.report_rows.specs.Report.{Report}
use Rattle.time_sweep.specs.declared.haste.Haste.{Haste}
use Rattle.time_sweep.specs.declared.haste.Part.{Part}
use Rattle.time_sweep.specs.declared.haste.Part.TheVariants.{Both, Queue}
use Rattle.report_json.specs.Json.{NamedValues, text, count, optional, object, outcome_json, value_json}
use Rattle.report_json.specs.Rows.{moment_in, names_json, outcome_in, rows_json, standing_json}

-- what `join` answers: nothing yet, a value, or an exception, which may have a cause
abbrev pub join_members : Join → NamedValues
join_members Waits = (codes "kind", text (codes "waits")) ∷ []
join_members (Returns value) = (codes "kind", text (codes "returns")) ∷ (codes "value", value_json value) ∷ []
join_members Cancelled =
    (codes "kind", text (codes "throws")) ∷
    (codes "exception", text (codes "java.util.concurrent.CancellationException")) ∷
    (codes "cause", null) ∷ []
join_members (Throws name) =
    (codes "kind", text (codes "throws")) ∷
    (codes "exception", text (codes "java.util.concurrent.CompletionException")) ∷
    (codes "cause", text name) ∷ []

-- what is left of the times of actions, in hundredths: of both, or of how long they are queued
abbrev pub left_members : Part → ℕ → NamedValues
left_members Both percent = (codes "queued", count percent) ∷ (codes "runs", count percent) ∷ []
left_members Queue percent = (codes "queued", count percent) ∷ []

-- ---- what a report says under a name

pub data Fact : Type 0 where
  a_text : List ℕ → Fact
  a_count : ℕ → Fact
  -- null where there is none
  maybe_count : Option ℕ → Fact
  maybe_outcome : Option Outcome → Fact
  a_standing : Standing → Fact
  some_names : List (List ℕ) → Fact
  an_answer : Join → Fact
  -- what is left of the times of actions
  some_hundredths : Part → ℕ → Fact
  some_rows : List Row → Fact

abbrev pub fact_json : Fact → Data
fact_json (a_text content) = text content
fact_json (a_count amount) = count amount
fact_json (maybe_count amount) = optional count amount
fact_json (maybe_outcome outcome) = optional outcome_json outcome
fact_json (a_standing standing) = standing_json standing
fact_json (some_names listed) = names_json listed
fact_json (an_answer join) = object (join_members join)
fact_json (some_hundredths part percent) = object (left_members part percent)
fact_json (some_rows listed) = rows_json listed

abbrev pub Facts : Type 0
Facts = List (List ℕ × Fact)

abbrev pub facts_json : Facts → NamedValues
facts_json facts = map (λ fact. (fact.0, fact_json fact.1)) facts

-- ---- the facts of each report

-- how much faster the actions of trials are, where that is told
abbrev pub haste_facts : Option Haste → Facts
haste_facts None = []
haste_facts (Some haste) = (codes "hundredths", some_hundredths haste.part haste.percent) ∷ []

-- all trials are counted, of which not all may have a row
abbrev pub first_of_sweep : Option Haste → ℕ → Facts
first_of_sweep haste all = (codes "count", a_count all) ∷ haste_facts haste

-- those whose names are before `line`
abbrev pub facts_before : Head → Facts
facts_before (All version parent mode) = []
facts_before (Times version) = []
facts_before (One version name op rank standing sources inner dependents join) =
    (codes "dependents", some_names dependents) ∷ (codes "inner", some_names inner) ∷ (codes "join", an_answer join) ∷ []
facts_before (Blame version name chain) = (codes "chain", some_names chain) ∷ []
facts_before (Path version name moment) = []
facts_before (Change version name old new) = []
facts_before (Changes version parent) = []
facts_before (Drift version parent) = []
facts_before (Ends version) = []
facts_before (Failures version) = []
facts_before (ChangesAgainst version against) = (codes "against", a_count against) ∷ []
facts_before (DriftAgainst version against) = (codes "against", a_count against) ∷ []
facts_before (Sweep version name moment haste all) = first_of_sweep haste all
facts_before (Slack version name moment all) = (codes "count", a_count all) ∷ []
facts_before (Rescue version name standing by tried all) = (codes "by", maybe_count by) ∷ (codes "count", a_count all) ∷ []
-- what the stage is in both runs
facts_before (Differences name good bad) = (codes "bad", a_standing bad) ∷ (codes "good", a_standing good) ∷ []

-- of a list of stages
abbrev pub listed : List ℕ → List Row → ℕ → Facts
listed report stages version = (codes "report", a_text report) ∷ (codes "stages", some_rows stages) ∷ (codes "version", a_count version) ∷ []

-- the same, with the version's parent
abbrev pub listed_since : List ℕ → Option ℕ → List Row → ℕ → Facts
listed_since report parent stages version = (codes "parent", maybe_count parent) ∷ listed report stages version

-- of a list of what leads to a stage
abbrev pub moment_of : List ℕ → Option ℕ → Facts
moment_of report moment = (codes "moment", maybe_count moment) ∷ (codes "report", a_text report) ∷ []

abbrev pub listed_of : List ℕ → List ℕ → List ℕ → List Row → ℕ → Facts
listed_of role name title stages version = (role, a_text name) ∷ (title, some_rows stages) ∷ (codes "version", a_count version) ∷ []

abbrev pub last_of_one : ℕ → List ℕ → Op → ℕ → Standing → List (List ℕ) → Facts
last_of_one version name op rank standing sources =
    (codes "moment", maybe_count (moment_in standing)) ∷
    (codes "op", a_text (op_text op)) ∷
    (codes "outcome", maybe_outcome (outcome_in standing)) ∷
    (codes "rank", a_count rank) ∷
    (codes "report", a_text (codes "one")) ∷
    (codes "sources", some_names sources) ∷
    (codes "stage", a_text name) ∷
    (codes "version", a_count version) ∷ []

abbrev pub last_of_change : ℕ → List ℕ → Standing → Standing → Facts
last_of_change version name old new =
    (codes "new", a_standing new) ∷
    (codes "old", a_standing old) ∷
    (codes "report", a_text (codes "change")) ∷
    (codes "stage", a_text name) ∷
    (codes "version", a_count version) ∷ []

-- what the stage is now, and the changes by which it would have a value
abbrev pub last_of_rescue : ℕ → List ℕ → Standing → ℕ → List Row → Facts
last_of_rescue version name standing tried rescues =
    (codes "moment", maybe_count (moment_in standing)) ∷
    (codes "outcome", maybe_outcome (outcome_in standing)) ∷
    (codes "report", a_text (codes "rescue")) ∷
    (codes "rescues", some_rows rescues) ∷
    (codes "stage", a_text name) ∷
    (codes "tried", a_count tried) ∷
    (codes "version", a_count version) ∷ []

-- those whose names are after `line`
abbrev pub facts_after : Head → List Row → Facts
facts_after (All version parent mode) stages = (codes "mode", a_text (mode_text mode)) ∷ listed_since (codes "all") parent stages version
facts_after (Times version) stages = listed (codes "times") stages version
facts_after (One version name op rank standing sources inner dependents join) stages = last_of_one version name op rank standing sources
facts_after (Blame version name chain) stages = (codes "report", a_text (codes "blame")) ∷ (codes "stage", a_text name) ∷ (codes "version", a_count version) ∷ []
facts_after (Path version name moment) steps = moment_of (codes "path") moment ++ listed_of (codes "stage") name (codes "steps") steps version
facts_after (Change version name old new) stages = last_of_change version name old new
facts_after (Changes version parent) stages = listed_since (codes "changes") parent stages version
facts_after (Drift version parent) stages = listed_since (codes "drift") parent stages version
facts_after (ChangesAgainst version against) stages = listed (codes "changes") stages version
facts_after (DriftAgainst version against) stages = listed (codes "drift") stages version
facts_after (Ends version) ends = listed (codes "ends") ends version
facts_after (Failures version) failures = listed (codes "failures") failures version
facts_after (Sweep version name moment haste all) trials = moment_of (codes "sweep") moment ++ listed_of (codes "target") name (codes "trials") trials version
facts_after (Slack version name moment all) stages = moment_of (codes "slack") moment ++ listed_of (codes "stage") name (codes "stages") stages version
facts_after (Rescue version name standing by tried all) rescues = last_of_rescue version name standing tried rescues
facts_after (Differences name good bad) stages = (codes "report", a_text (codes "differences")) ∷ (codes "stage", a_text name) ∷ (codes "stages", some_rows stages) ∷ []

-- ---- the report

abbrev pub facts : Report → Facts
facts report = facts_before report.head ++ facts_after report.head report.rows

abbrev pub object_of : Report → Data
object_of report = object (facts_json (facts report))
