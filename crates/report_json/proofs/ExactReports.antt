-- Reports have no float and do not nest deep, so what is written of them reads back.
use Rattle.std.proofs.Common.{ℕ, ◌≤◌, List, [], ◌∷◌, Option, arith, suc}
use Rattle.std.specs.List.{AllByRecursion}
use Rattle.std.specs.Option.{option_map}
use Rattle.act_expr.specs.declared.outcome.Outcome.{Outcome}
use Rattle.act_expr.specs.declared.outcome.Outcome.TheVariants as came_to
use Rattle.stage_ends.specs.declared.fate.Fate.{Fate}
use Rattle.stage_ends.specs.declared.fate.Fate.TheVariants.{Struck, CutOff, NotReached, TooLate}
use Rattle.stage_ops.specs.declared.state.Join.{Join}
use Rattle.stage_ops.specs.declared.state.Join.TheVariants.{Waits, Returns, Cancelled, Throws}
use Rattle.serde_json.specs.Data.{depth}
use Rattle.serde_json.specs.Read.{max_depth}
use Rattle.report_rows.specs.declared.because.Because.{Because}
use Rattle.report_rows.specs.declared.because.Because.TheVariants.{Created, After, Inner, Pinned, Ended, Waiting, Open}
use Rattle.report_rows.specs.declared.in_run.InRun.{InRun}
use Rattle.report_rows.specs.declared.row.Row.{Row}
use Rattle.report_rows.specs.declared.row.Row.TheVariants as a_row
use Rattle.report_rows.specs.declared.shift.Shift.{Shift}
use Rattle.report_rows.specs.declared.shift.Shift.TheVariants.{Later, Earlier}
use Rattle.report_rows.specs.declared.standing.Standing.{Standing}
use Rattle.report_rows.specs.declared.standing.Standing.TheVariants.{Absent, Pending, Completed}
use Rattle.report_rows.specs.declared.tried_change.TriedChange.{TriedChange}
use Rattle.report_rows.specs.declared.tried_change.TriedChange.TheVariants.{NoTime, NotQueued, NoFailure, WithoutEnd, TwiceTheDelay}
use Rattle.report_rows.specs.Ends.{delay_in}
use Rattle.report_rows.specs.Report.{Report}
use Rattle.report_rows.specs.Rows.{latest_start}
use Rattle.reply_rescue.specs.Ends.{twice}
use Rattle.report_json.specs.Changes.{tried_members}
use Rattle.time_sweep.specs.declared.haste.Part.{Part}
use Rattle.time_sweep.specs.declared.haste.Part.TheVariants.{Both, Queue}
use Rattle.report_json.specs.Heads.{Fact, a_text, a_count, maybe_count, maybe_outcome, a_standing, some_names, an_answer, some_hundredths, some_rows, Facts, fact_json, facts, facts_json, join_members, left_members, object_of}
use Rattle.report_json.specs.Json.{at_line, count, object, outcome_json, text}
use Rattle.report_json.specs.Rows.{because_members, exception_json, fate_members, in_run_json, kind_of_stage, moment_in, names_json, outcome_in, own_members, row_json, row_members, rows_json, shift_members, standing_json, standing_members}
use Rattle.report_json.proofs.Exact.{IsExact, at_line_exact, count_exact, deeper, flag_exact, list_exact, null_exact, object_exact, optional_exact, outcome_exact, text_exact, value_exact}

-- ---- rows

members_exact : (standing : Standing) → IsExact 2 (object (standing_members standing))
members_exact standing = object_exact 1 (standing_members standing)
    (optional_exact 1 outcome_json (outcome_in standing) (outcome_exact 0), (optional_exact 1 count (moment_in standing) (count_exact 1), tt))

standing_exact : (standing : Standing) → IsExact 2 (standing_json standing)
standing_exact Absent = null_exact 2
standing_exact Pending = members_exact Pending
standing_exact (Completed outcome moment) = members_exact (Completed outcome moment)

kind_exact : (kind name : List ℕ) → IsExact 1 (object (kind_of_stage kind name))
kind_exact kind name = object_exact 0 (kind_of_stage kind name) (text_exact 0 _, (text_exact 0 _, tt))

because_exact : (because : Because) → IsExact 1 (object (because_members because))
because_exact (Created tick) = object_exact 0 (because_members (Created tick)) (text_exact 0 _, (count_exact 0 _, tt))
because_exact (After name) = kind_exact _ name
because_exact (Inner name) = kind_exact _ name
because_exact Pinned = object_exact 0 (because_members Pinned) (text_exact 0 _, tt)
because_exact (Ended kind) = object_exact 0 (because_members (Ended kind)) (text_exact 0 _, (text_exact 0 _, tt))
because_exact (Waiting name) = kind_exact _ name
because_exact Open = object_exact 0 (because_members Open) (text_exact 0 _, tt)

shift_exact : (name : List ℕ) (shift : Shift) → IsExact 3 (object (shift_members name shift))
shift_exact name (Later ticks) = object_exact 2 (shift_members name (Later ticks)) (text_exact 2 _, (count_exact 2 _, tt))
shift_exact name (Earlier ticks) = object_exact 2 (shift_members name (Earlier ticks)) (text_exact 2 _, (count_exact 2 _, tt))

fate_exact : (fate : Fate) → IsExact 1 (object (fate_members fate))
fate_exact Struck = object_exact 0 (fate_members Struck) (text_exact 0 _, tt)
fate_exact (CutOff ran of) = object_exact 0 (fate_members (CutOff ran of)) (text_exact 0 _, (count_exact 0 _, (count_exact 0 _, tt)))
fate_exact (NotReached by) = object_exact 0 (fate_members (NotReached by)) (text_exact 0 _, (count_exact 0 _, tt))
fate_exact (TooLate by) = object_exact 0 (fate_members (TooLate by)) (text_exact 0 _, (count_exact 0 _, tt))

exception_exact : (n : ℕ) (outcome : Outcome) → IsExact n (exception_json outcome)
exception_exact n (came_to.Value value) = null_exact n
exception_exact n (came_to.Bare name) = text_exact n name
exception_exact n (came_to.Wrapped name) = text_exact n name

names_exact : (n : ℕ) (names : List (List ℕ)) → IsExact (suc n) (names_json names)
names_exact n names = list_exact n text names (text_exact n)

change_exact : (change : TriedChange) → IsExact 1 (object (tried_members change))
change_exact NoTime = object_exact 0 (tried_members NoTime) (text_exact 0 _, tt)
change_exact NotQueued = object_exact 0 (tried_members NotQueued) (text_exact 0 _, tt)
change_exact (NoFailure value) = object_exact 0 (tried_members (NoFailure value)) (text_exact 0 _, (value_exact 0 value, tt))
change_exact (WithoutEnd index end is_only) = object_exact 0 (tried_members (WithoutEnd index end is_only))
    (text_exact 0 _, (count_exact 0 _, (text_exact 0 _, (count_exact 0 _, (optional_exact 0 count (delay_in end) (count_exact 0), (flag_exact 0 is_only, tt))))))
change_exact (TwiceTheDelay index end is_only) = object_exact 0 (tried_members (TwiceTheDelay index end is_only)) (
  text_exact 0 _,
  (
    optional_exact 0 count (option_map twice (delay_in end)) (count_exact 0),
    (count_exact 0 _, (text_exact 0 _, (count_exact 0 _, (optional_exact 0 count (delay_in end) (count_exact 0), (flag_exact 0 is_only, tt))))),
  ),
)

in_run_exact : (run : InRun) → IsExact 2 (in_run_json run)
in_run_exact run = object_exact 1 (own_members run.queued run.ran run.standing)
    (count_exact 1 _, (count_exact 1 _, (optional_exact 1 outcome_json (outcome_in run.standing) (outcome_exact 0), (optional_exact 1 count (moment_in run.standing) (count_exact 1), tt))))

row_exact : (row : Row) → IsExact 3 (row_json row)
row_exact (a_row.State name op rank standing) = object_exact 2 (row_members (a_row.State name op rank standing))
    (text_exact 2 _, (text_exact 2 _, (count_exact 2 _, (optional_exact 2 outcome_json (outcome_in standing) (outcome_exact 1), (optional_exact 2 count (moment_in standing) (count_exact 2), tt)))))
row_exact (a_row.Times name start queued runs) = object_exact 2 (row_members (a_row.Times name start queued runs))
    (text_exact 2 _, (optional_exact 2 count start (count_exact 2), (count_exact 2 _, (count_exact 2 _, tt))))
row_exact (a_row.Step name moment queued ran because) = object_exact 2 (row_members (a_row.Step name moment queued ran because))
    (text_exact 2 _, (optional_exact 2 count moment (count_exact 2), (count_exact 2 _, (count_exact 2 _, (deeper 1 2 _ (omega arith) (because_exact because), tt)))))
row_exact (a_row.Change name old new) = object_exact 2 (row_members (a_row.Change name old new)) (text_exact 2 _, (standing_exact old, (standing_exact new, tt)))
row_exact (a_row.Shift name shift) = shift_exact name shift
row_exact (a_row.End name kind delay moment fate) = object_exact 2 (row_members (a_row.End name kind delay moment fate))
    (text_exact 2 _, (text_exact 2 _, (optional_exact 2 count delay (count_exact 2), (count_exact 2 _, (deeper 1 2 _ (omega arith) (fate_exact fate), tt)))))
row_exact (a_row.Failure name standing reaches handled) = object_exact 2 (row_members (a_row.Failure name standing reaches handled))
    (text_exact 2 _, (optional_exact 2 exception_json (outcome_in standing) (exception_exact 2), (optional_exact 2 count (moment_in standing) (count_exact 2), (names_exact 1 reaches, (names_exact 1 handled, tt)))))
row_exact (a_row.Trial name sooner outcome moment) = object_exact 2 (row_members (a_row.Trial name sooner outcome moment))
    (text_exact 2 _, (count_exact 2 _, (outcome_exact 1 outcome, (count_exact 2 _, tt))))
row_exact (a_row.Slack name slack start) = object_exact 2 (row_members (a_row.Slack name slack start))
    (text_exact 2 _, (optional_exact 2 count slack (count_exact 2), (count_exact 2 _, (optional_exact 2 count (latest_start start slack) (count_exact 2), tt))))
row_exact (a_row.Rescue name change value moment) = object_exact 2 (row_members (a_row.Rescue name change value moment))
    (text_exact 2 _, (deeper 1 2 _ (omega arith) (change_exact change), (value_exact 2 value, (count_exact 2 _, tt))))
row_exact (a_row.Differs name good bad) = object_exact 2 (row_members (a_row.Differs name good bad)) (text_exact 2 _, (in_run_exact good, (in_run_exact bad, tt)))
row_exact (a_row.OnlyInGood name good) = object_exact 2 (row_members (a_row.OnlyInGood name good)) (text_exact 2 _, (in_run_exact good, (null_exact 2, tt)))
row_exact (a_row.OnlyInBad name bad) = object_exact 2 (row_members (a_row.OnlyInBad name bad)) (text_exact 2 _, (null_exact 2, (in_run_exact bad, tt)))

rows_exact : (rows : List Row) → IsExact 4 (rows_json rows)
rows_exact rows = list_exact 3 row_json rows row_exact

-- ---- reports

join_exact : (join : Join) → IsExact 4 (object (join_members join))
join_exact Waits = object_exact 3 (join_members Waits) (text_exact 3 _, tt)
join_exact (Returns value) = object_exact 3 (join_members (Returns value)) (text_exact 3 _, (value_exact 3 value, tt))
join_exact Cancelled = object_exact 3 (join_members Cancelled) (text_exact 3 _, (text_exact 3 _, (null_exact 3, tt)))
join_exact (Throws name) = object_exact 3 (join_members (Throws name)) (text_exact 3 _, (text_exact 3 _, (text_exact 3 _, tt)))

left_exact : (part : Part) (percent : ℕ) → IsExact 4 (object (left_members part percent))
left_exact Both percent = object_exact 3 (left_members Both percent) (count_exact 3 _, (count_exact 3 _, tt))
left_exact Queue percent = object_exact 3 (left_members Queue percent) (count_exact 3 _, tt)

fact_exact : (fact : Fact) → IsExact 4 (fact_json fact)
fact_exact (a_text content) = text_exact 4 content
fact_exact (a_count amount) = count_exact 4 amount
fact_exact (maybe_count amount) = optional_exact 4 count amount (count_exact 4)
fact_exact (maybe_outcome outcome) = optional_exact 4 outcome_json outcome (outcome_exact 3)
fact_exact (a_standing standing) = deeper 2 4 _ (omega arith) (standing_exact standing)
fact_exact (some_names listed) = names_exact 3 listed
fact_exact (an_answer join) = join_exact join
fact_exact (some_hundredths part percent) = left_exact part percent
fact_exact (some_rows listed) = rows_exact listed

facts_exact : (facts : Facts) → AllByRecursion (λ member. IsExact 4 member.1) (facts_json facts)
facts_exact [] = tt
facts_exact (fact ∷ others) = (fact_exact fact.1, facts_exact others)

-- with the number of the line that is answered
pub report_shallow : (line : Option ℕ) (report : Report) → depth (at_line line (object_of report)) ≤ max_depth
report_shallow line report =
    let exact = at_line_exact 4 line (object_of report) (object_exact 4 (facts_json (facts report)) (facts_exact (facts report))) in
    (deeper 5 127 (at_line line (object_of report)) (omega arith) exact).shallow
