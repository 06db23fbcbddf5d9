-- What a report says, as text: a head, and a line for each row.
use Rattle.std.specs.Prelude.{ℕ, Bool, if◌then◌else◌, List, [], ◌∷◌, ◌++◌, Option, None, Some, codes, length}
use Rattle.std.specs.Option.{option_map}
use Rattle.std.specs.List.{flat_map}
use Rattle.std.specs.Fmt.{decimal}
use Rattle.act_expr.specs.declared.outcome.Outcome.{Outcome}
use Rattle.act_expr.specs.declared.outcome.Outcome.TheVariants as came_to
use Rattle.act_expr.specs.OutcomeText.{outcome_text, value_text}
use Rattle.reply_rescue.specs.Ends.{twice}
use Rattle.stage_ends.specs.declared.fate.Fate.{Fate}
use Rattle.stage_ends.specs.declared.fate.Fate.TheVariants.{Struck, CutOff, NotReached, TooLate}
use Rattle.stage_graph.specs.declared.end.End.{End}
use Rattle.stage_graph.specs.Texts.{op_text}
use Rattle.stage_ops.specs.declared.state.Join.{Join}
use Rattle.stage_ops.specs.Texts.{join_text}
use Rattle.report_rows.specs.declared.because.Because.{Because}
use Rattle.report_rows.specs.declared.because.Because.TheVariants.{Created, After, Inner, Pinned, Ended, Waiting, Open}
use Rattle.report_rows.specs.declared.head.Head.{Head}
use Rattle.report_rows.specs.declared.head.Head.TheVariants as a_head
use Rattle.report_rows.specs.declared.in_run.InRun.{InRun}
use Rattle.report_rows.specs.declared.row.Row.{Row}
use Rattle.report_rows.specs.declared.row.Row.TheVariants as a_row
use Rattle.report_rows.specs.declared.shift.Shift.{Shift}
use Rattle.report_rows.specs.declared.shift.Shift.TheVariants.{Later, Earlier}
use Rattle.report_rows.specs.declared.standing.Standing.{Standing}
use Rattle.report_rows.specs.declared.standing.Standing.TheVariants.{Absent, Pending, Completed}
use Rattle.report_rows.specs.declared.tried_change.TriedChange.{TriedChange}
use Rattle.report_rows.specs.declared.tried_change.TriedChange.TheVariants.{NoTime, NotQueued, NoFailure, WithoutEnd, TwiceTheDelay}
use Rattle.report_rows.specs.Ends.{delay_in, end_text as end_kind, set_at}
use Rattle.report_rows.specs.Modes.{mode_text}
use Rattle.report_rows.specs.Replies.{has_replied}
use Rattle.report_rows.specs.Report.{Report}
use Rattle.report_rows.specs.Rows.{latest_start}
use Rattle.report_rows.specs.Shifts.{shift_between}
use Rattle.text_io.specs.Writes.{line_end}
use Rattle.time_sweep.specs.declared.haste.Haste.{Haste}
use Rattle.time_sweep.specs.declared.haste.Part.{Part}
use Rattle.time_sweep.specs.declared.haste.Part.TheVariants.{Both, Queue}

-- ---- words

abbrev pub number_or_dash : Option ℕ → List ℕ
number_or_dash None = codes "-"
number_or_dash (Some number) = decimal number

-- the moment of a completed stage; else another text
abbrev pub at_text : List ℕ → Option ℕ → List ℕ
at_text otherwise None = otherwise
at_text otherwise (Some moment) = codes " at " ++ decimal moment

abbrev pub standing_text : Standing → List ℕ
standing_text Absent = codes "absent"
standing_text Pending = codes "pending"
standing_text (Completed outcome moment) = outcome_text outcome ++ codes " at " ++ decimal moment

-- later D, or earlier D
abbrev pub shift_text : Shift → List ℕ
shift_text (Later ticks) = codes "later " ++ decimal ticks
shift_text (Earlier ticks) = codes "earlier " ++ decimal ticks

-- +D, or -D
abbrev pub signed_text : Option Shift → List ℕ
signed_text None = codes "+0"
signed_text (Some (Later ticks)) = codes "+" ++ decimal ticks
signed_text (Some (Earlier ticks)) = codes "-" ++ decimal ticks

-- how many ticks there are more than in another run
abbrev pub more_text : ℕ → ℕ → List ℕ
more_text good bad = signed_text (shift_between good bad)

-- how many ticks later it completed than in another run; a dash where it did not in both
abbrev pub later_text : Standing → Standing → List ℕ
later_text (Completed outcome good) (Completed other bad) = more_text good bad
later_text good bad = codes "-"

-- the outcome alone
abbrev pub end_result_text : Standing → List ℕ
end_result_text Absent = codes "absent"
end_result_text Pending = codes "pending"
end_result_text (Completed outcome moment) = outcome_text outcome

-- an exception; a dash for a value
abbrev pub exception_text : Outcome → List ℕ
exception_text (came_to.Value value) = codes "-"
exception_text (came_to.Bare name) = name
exception_text (came_to.Wrapped name) = name

-- EXCEPTION at M
abbrev pub failure_text : Standing → List ℕ
failure_text Absent = codes "-"
failure_text Pending = codes "-"
failure_text (Completed outcome moment) = exception_text outcome ++ codes " at " ++ decimal moment

-- a space, and the delay of a timeout
abbrev pub delay_text : Option ℕ → List ℕ
delay_text None = []
delay_text (Some delay) = codes " " ++ decimal delay

-- what became of an end
abbrev pub fate_text : Fate → List ℕ
fate_text Struck = codes "struck"
fate_text (CutOff ran of) = codes "struck, cut off after " ++ decimal ran ++ codes " of its " ++ decimal of
fate_text (NotReached by) = codes "not reached by " ++ decimal by
fate_text (TooLate by) = codes "too late by " ++ decimal by

-- NAME KIND DELAY at T
abbrev pub end_text : List ℕ → List ℕ → Option ℕ → ℕ → List ℕ
end_text name kind delay moment = name ++ codes " " ++ kind ++ delay_text delay ++ codes " at " ++ decimal moment

-- a space, and a name
abbrev pub spaced : List ℕ → List ℕ
spaced name = codes " " ++ name

-- names, with a space before each; a dash for none
abbrev pub names_text : List (List ℕ) → List ℕ
names_text [] = codes " -"
names_text (first ∷ others) = flat_map spaced (first ∷ others)

-- whom an exception reaches, and who handles it
abbrev pub concerned_text : List (List ℕ) → List (List ℕ) → List ℕ
concerned_text reaches handled = (codes " reaches" ++ names_text reaches) ++ (codes "; handled by" ++ names_text handled)

-- TITLE NAMES
abbrev pub names_line : List ℕ → List (List ℕ) → List ℕ
names_line title names = title ++ names_text names ++ line_end

-- how long its own action was queued and ran
abbrev pub own_text : ℕ → ℕ → List ℕ
own_text queued ran = codes " queued " ++ decimal queued ++ codes " ran " ++ decimal ran

-- after which event it completed, or what it waits for
abbrev pub because_text : ℕ → ℕ → Because → List ℕ
because_text queued ran (Created tick) = own_text queued ran ++ codes " created " ++ decimal tick
because_text queued ran (After name) = own_text queued ran ++ codes " after " ++ name
because_text queued ran (Inner name) = codes " took over " ++ name
because_text queued ran Pinned = codes " pinned"
because_text queued ran (Ended kind) = codes " ended by " ++ kind
because_text queued ran (Waiting name) = codes " waits for " ++ name
because_text queued ran Open = codes " open"

-- KIND DELAY set at T
abbrev pub set_end_text : Option End → List ℕ
set_end_text end = end_kind end ++ delay_text (delay_in end) ++ codes " set at " ++ decimal (set_at end)

-- without an end; unlimited where that is the one timeout
abbrev pub without_text : Option End → Bool → List ℕ
without_text end is_only = if is_only then codes "unlimited" else codes "without " ++ set_end_text end

-- what stands before another delay of a timeout; limit= where it is the one timeout
abbrev pub limited_text : Option End → Bool → List ℕ
limited_text end is_only = if is_only then codes "limit=" else set_end_text end ++ codes " -> "

-- a timeout, and twice its delay; limit=N where it is the one timeout
abbrev pub longer_text : Option End → Bool → List ℕ
longer_text end is_only = limited_text end is_only ++ number_or_dash (option_map twice (delay_in end))

-- a change of a stage, as an assignment of `try` where there is one that makes it
abbrev pub tried_text : TriedChange → List ℕ
tried_text NoTime = codes "runs=0"
tried_text NotQueued = codes "queued=0"
tried_text (NoFailure value) = codes "gives=" ++ value_text value
tried_text (WithoutEnd index end is_only) = without_text end is_only
tried_text (TwiceTheDelay index end is_only) = longer_text end is_only

-- ---- rows

-- NAME OP rank R STANDING
abbrev pub state_text : List ℕ → List ℕ → ℕ → Standing → List ℕ
state_text name op rank standing = name ++ codes " " ++ op ++ codes " rank " ++ decimal rank ++ codes " " ++ standing_text standing ++ line_end

-- NAME OLD -> NEW
abbrev pub change_text : List ℕ → Standing → Standing → List ℕ
change_text name old new = name ++ codes " " ++ standing_text old ++ codes " -> " ++ standing_text new ++ line_end

-- queued +D ran +D, where it was queued and ran so long in the one run and in the other
abbrev pub shares_text : InRun → InRun → List ℕ
shares_text good bad = codes " queued " ++ more_text good.queued bad.queued ++ codes " ran " ++ more_text good.ran bad.ran

-- at +D OUTCOME -> OUTCOME
abbrev pub results_text : Standing → Standing → List ℕ
results_text good bad = codes " at " ++ later_text good bad ++ codes " " ++ end_result_text good ++ codes " -> " ++ end_result_text bad

-- NAME only in RUN
abbrev pub only_text : List ℕ → List ℕ → List ℕ
only_text name run = name ++ codes " only in " ++ run ++ line_end

abbrev pub row_text : Row → List ℕ
-- NAME OP rank R STANDING
row_text (a_row.State name op rank standing) = state_text name (op_text op) rank standing
-- NAME start S queued Q runs R
row_text (a_row.Times name start queued runs) =
    name ++ codes " start " ++ number_or_dash start ++ codes " queued " ++ decimal queued ++ codes " runs " ++ decimal runs ++ line_end
-- NAME at M queued Q ran R after NEXT, or NAME waits for NEXT
row_text (a_row.Step name moment queued ran because) = name ++ at_text [] moment ++ because_text queued ran because ++ line_end
-- NAME OLD -> NEW
row_text (a_row.Change name old new) = change_text name old new
-- NAME later D, or NAME earlier D
row_text (a_row.Shift name shift) = name ++ codes " " ++ shift_text shift ++ line_end
-- NAME KIND DELAY at T FATE
row_text (a_row.End name kind delay moment fate) = end_text name kind delay moment ++ (codes " " ++ fate_text fate ++ line_end)
-- NAME EXCEPTION at M reaches NAMES; handled by NAMES
row_text (a_row.Failure name standing reaches handled) = name ++ codes " " ++ failure_text standing ++ concerned_text reaches handled ++ line_end
-- NAME sooner D -> OUTCOME at T
row_text (a_row.Trial name sooner outcome moment) =
    name ++ codes " sooner " ++ decimal sooner ++ codes " -> " ++ outcome_text outcome ++ codes " at " ++ decimal moment ++ line_end
-- NAME slack D start A latest L
row_text (a_row.Slack name slack start) =
    name ++ codes " slack " ++ number_or_dash slack ++ codes " start " ++ decimal start ++ codes " latest " ++ number_or_dash (latest_start start slack) ++ line_end
-- NAME CHANGE -> value:V at M
row_text (a_row.Rescue name change value moment) =
    name ++ codes " " ++ tried_text change ++ codes " -> value:" ++ value_text value ++ codes " at " ++ decimal moment ++ line_end
-- NAME queued +D ran +D at +D OUTCOME -> OUTCOME
row_text (a_row.Differs name good bad) = name ++ shares_text good bad ++ results_text good.standing bad.standing ++ line_end
-- NAME only in GOOD
row_text (a_row.OnlyInGood name good) = only_text name (codes "GOOD")
-- NAME only in BAD
row_text (a_row.OnlyInBad name bad) = only_text name (codes "BAD")

-- ---- heads

-- TITLE of version N
abbrev pub of_version : List ℕ → ℕ → List ℕ
of_version title version = title ++ codes " of version " ++ decimal version

-- TITLE of NAME at M, or TITLE of NAME pending
abbrev pub of_stage : List ℕ → List ℕ → Option ℕ → List ℕ
of_stage title name moment = title ++ codes " of " ++ name ++ at_text (codes " pending") moment

-- TITLE of NAME at +D
abbrev pub of_stage_later : List ℕ → List ℕ → Standing → Standing → List ℕ
of_stage_later title name good bad = title ++ codes " of " ++ name ++ codes " at " ++ later_text good bad

-- the feeds, the dependents and `join` of a stage, each on a line
abbrev pub around_text : List (List ℕ) → List (List ℕ) → List (List ℕ) → Join → List ℕ
around_text sources inner dependents join =
    names_line (codes "sources") sources ++ names_line (codes "inner") inner ++ names_line (codes "dependents") dependents ++ codes "join " ++ join_text join ++ line_end

-- KEY=P%
abbrev pub share_text : List ℕ → ℕ → List ℕ
share_text key percent = key ++ decimal percent ++ codes "%"

-- with queued=P% runs=P%, or with queued=P%
abbrev pub left_text : Part → ℕ → List ℕ
left_text Both percent = share_text (codes " with queued=") percent ++ share_text (codes " runs=") percent
left_text Queue percent = share_text (codes " with queued=") percent

-- how much faster the actions of trials are, where that is told
abbrev pub haste_text : Option Haste → List ℕ
haste_text None = []
haste_text (Some haste) = left_text haste.part haste.percent

-- WORD K, the end of the first line of a report with so many rows
abbrev pub counted : List ℕ → ℕ → List ℕ
counted word count = codes " " ++ word ++ codes " " ++ decimal count ++ line_end

-- how many changes are rescues, of so many; none is needed where there is a value in time
abbrev pub rescued_text : Bool → ℕ → ℕ → List ℕ
rescued_text replied all tried = if replied then codes "none needed" else decimal all ++ codes " of " ++ decimal tried ++ codes " changes"

-- rescue of NAME STANDING: K of N changes
abbrev pub rescue_text : List ℕ → Standing → Option ℕ → ℕ → ℕ → List ℕ
rescue_text name standing by tried all =
    codes "rescue of " ++ name ++ codes " " ++ standing_text standing ++ codes ": " ++ rescued_text (has_replied by standing) all tried ++ line_end

-- what stands before the rows, of which there are so many
abbrev pub head_text : Head → ℕ → List ℕ
-- version N parent P mode MODE stages K
head_text (a_head.All version parent mode) count =
    codes "version " ++ decimal version ++ codes " parent " ++ number_or_dash parent ++ codes " mode " ++ mode_text mode ++ counted (codes "stages") count
-- times of version N stages K
head_text (a_head.Times version) count = of_version (codes "times") version ++ counted (codes "stages") count
-- a line of the stage, and its feeds, dependents and `join`, each on a line
head_text (a_head.One version name op rank standing sources inner dependents join) count =
    state_text name (op_text op) rank standing ++ around_text sources inner dependents join
-- blame NAMES
head_text (a_head.Blame version name chain) count = names_line (codes "blame") chain
-- path of NAME at M stages K
head_text (a_head.Path version name moment) count = of_stage (codes "path") name moment ++ counted (codes "stages") count
-- NAME OLD -> NEW
head_text (a_head.Change version name old new) count = change_text name old new
-- changes of version N from P touched K
head_text (a_head.Changes version parent) count = of_version (codes "changes") version ++ codes " from " ++ number_or_dash parent ++ counted (codes "touched") count
-- drift of version N from P moved K
head_text (a_head.Drift version parent) count = of_version (codes "drift") version ++ codes " from " ++ number_or_dash parent ++ counted (codes "moved") count
-- changes of version N against B changed K
head_text (a_head.ChangesAgainst version against) count = of_version (codes "changes") version ++ codes " against " ++ decimal against ++ counted (codes "changed") count
-- drift of version N against B moved K
head_text (a_head.DriftAgainst version against) count = of_version (codes "drift") version ++ codes " against " ++ decimal against ++ counted (codes "moved") count
-- ends of version N ends K
head_text (a_head.Ends version) count = of_version (codes "ends") version ++ counted (codes "ends") count
-- failures of version N failures K
head_text (a_head.Failures version) count = of_version (codes "failures") version ++ counted (codes "failures") count
-- sweep of NAME at M with queued=P% runs=P% stages K, of which not all may have a row
head_text (a_head.Sweep version name moment haste all) count = of_stage (codes "sweep") name moment ++ haste_text haste ++ counted (codes "stages") all
-- slack of NAME at M stages K
head_text (a_head.Slack version name moment all) count = of_stage (codes "slack") name moment ++ counted (codes "stages") all
-- rescue of NAME STANDING: K of N changes; not all rescues may have a row
head_text (a_head.Rescue version name standing by tried all) count = rescue_text name standing by tried all
-- differences of NAME at +D stages K
head_text (a_head.Differences name good bad) count = of_stage_later (codes "differences") name good bad ++ counted (codes "stages") count

-- ---- a report

abbrev pub report_text : Report → List ℕ
report_text report = head_text report.head (length report.rows) ++ flat_map row_text report.rows
