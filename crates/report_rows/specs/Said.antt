-- What each report says.
use Rattle.std.specs.Prelude.{ℕ, Bool, List, [], Option, Some, length, map, nat_lt}
use Rattle.std.specs.Option.{option_map}
use Rattle.stage_graph.specs.declared.stage.Stage.{Stage}
use Rattle.stage_graph.specs.Plain.{PlainGraph, stage_at, all_places, dependents}
use Rattle.stage_graph.specs.Walk.{rank}
use Rattle.stage_ops.specs.Java.{java_step}
use Rattle.stage_ops.specs.Joins.{joined}
use Rattle.scratch_eval.specs.Blame.{chain}
use Rattle.scratch_eval.specs.Path.{path}
use Rattle.version_store.specs.Plain.{PlainVersion, parent_of}
use Rattle.version_store.specs.Queries.{before, state_of, moment_in, touched_of}
use Rattle.run_comparison.specs.Differences.{differences}
use Rattle.stage_ends.specs.Ends.{ends}
use Rattle.reply_rescue.specs.declared.rescue.Rescue.{Rescue}
use Rattle.reply_rescue.specs.Rescues.{rescues, trials}
use Rattle.stage_slack.specs.declared.slack.Slack.{Slack}
use Rattle.stage_slack.specs.Slacks.{slacks}
use Rattle.time_sweep.specs.declared.trial.Trial.{Trial}
use Rattle.time_sweep.specs.Sweep.{completion_of, sweep, ticks_of}
use Rattle.report_rows.specs.declared.arisen.Arisen.{Arisen}
use Rattle.report_rows.specs.declared.arisen.Arisen.TheVariants as arisen
use Rattle.report_rows.specs.declared.comparison.Comparison.{Comparison}
use Rattle.report_rows.specs.declared.comparison.Comparison.TheVariants as compared
use Rattle.report_rows.specs.declared.head.Head.TheVariants as a_head
use Rattle.report_rows.specs.declared.listing.Listing.TheVariants as listing
use Rattle.report_rows.specs.declared.rescue_terms.RescueTerms.{RescueTerms}
use Rattle.report_rows.specs.declared.sweep_asked.SweepAsked.{SweepAsked}
use Rattle.report_rows.specs.declared.what.What.{What}
use Rattle.report_rows.specs.declared.what.What.TheVariants.{All, One, Blame, Path, Change, Changes, Drift, Times, Ends, Failures}
use Rattle.report_rows.specs.Failures.{failure_rows}
use Rattle.report_rows.specs.First.{first_of}
use Rattle.report_rows.specs.Listings.{rows_at}
use Rattle.report_rows.specs.Names.{name_at, names_at}
use Rattle.report_rows.specs.Report.{Report}
use Rattle.report_rows.specs.Rows.{difference_row, end_row, rescue_row, slack_row, trial_row}
use Rattle.report_rows.specs.Standings.{standing_at, standing_before}
use Rattle.report_rows.specs.Swept.{ending_so, told_haste}

-- ---- a version

-- every live stage, by place
abbrev pub all_said : PlainVersion → Report
all_said version = record {
  head = a_head.All version.number (parent_of version) version.graph.mode;
  rows = rows_at listing.States version version (all_places version.graph.places);
}

-- when every live stage ran, by place
abbrev pub times_said : PlainVersion → Report
times_said version = record {
  head = a_head.Times version.number;
  rows = rows_at listing.Times version version (all_places version.graph.places);
}

-- the stages that the edits touch, by rank and then by place
abbrev pub changes_said : PlainVersion → Report
changes_said version = record {
  head = a_head.Changes version.number (parent_of version);
  rows = rows_at listing.Changes version version (touched_of version);
}

-- the stages that complete at another moment than in the parent, by place
abbrev pub drift_said : PlainVersion → Report
drift_said version = record {
  head = a_head.Drift version.number (parent_of version);
  rows = rows_at listing.Shifts version version (all_places version.graph.places);
}

-- what became of each end of each stage, by place and then in the order of the stage's list
abbrev pub ends_said : PlainVersion → Report
ends_said version = record {
  head = a_head.Ends version.number;
  rows = map (end_row version.graph) (ends version.graph);
}

-- the exceptions that arose in stages, of those that are asked for, by place
abbrev pub failures_said : PlainVersion → Arisen → Report
failures_said version arisen = record {
  head = a_head.Failures version.number;
  rows = failure_rows version.graph arisen;
}

-- ---- a stage of a version

-- the stage, its feeds, its dependents and what `join` answers
abbrev pub one_said : PlainVersion → ℕ → Stage → Report
one_said version place stage = record {
  head = a_head.One version.number stage.name stage.op (rank version.graph.places place) (standing_at version.graph place)
      (names_at version.graph stage.sources) (names_at version.graph stage.inner) (names_at version.graph (dependents version.graph.places place))
      (joined (state_of version.graph place));
  rows = [];
}

-- how it came by its exception
abbrev pub blame_said : PlainVersion → ℕ → Stage → Report
blame_said version place stage = record {
  head = a_head.Blame version.number stage.name (names_at version.graph (chain (java_step version.graph.mode) version.graph.places place));
  rows = [];
}

-- why it completed when it did, or why it is pending
abbrev pub path_said : PlainVersion → ℕ → Stage → Report
path_said version place stage = record {
  head = a_head.Path version.number stage.name (moment_in (state_of version.graph place));
  rows = rows_at listing.Steps version version (path version.graph place);
}

-- what it was in the parent, and what it is here
abbrev pub change_said : PlainVersion → ℕ → Stage → Report
change_said version place stage = record {
  head = a_head.Change version.number stage.name (standing_before (before version.origin place)) (standing_at version.graph place);
  rows = [];
}

-- what a report of a version says; none where it asks for a stage that is not live
abbrev pub said : PlainVersion → What → Option Report
said version All = Some (all_said version)
said version (One place) = option_map (one_said version place) (stage_at version.graph.places place)
said version (Blame place) = option_map (blame_said version place) (stage_at version.graph.places place)
said version (Path place) = option_map (path_said version place) (stage_at version.graph.places place)
said version (Change place) = option_map (change_said version place) (stage_at version.graph.places place)
said version Changes = Some (changes_said version)
said version Drift = Some (drift_said version)
said version Times = Some (times_said version)
said version Ends = Some (ends_said version)
said version (Failures arisen.Anywhere) = Some (failures_said version arisen.Anywhere)
said version (Failures (arisen.In origin)) = option_map (λ stage. failures_said version (arisen.In origin)) (stage_at version.graph.places origin)
said version (Failures (arisen.Beside place)) = option_map (λ stage. failures_said version (arisen.Beside place)) (stage_at version.graph.places place)

-- whether a report has rows; none where it asks for a stage that is not live
abbrev pub has_rows : PlainVersion → What → Option Bool
has_rows version what = option_map (λ report. nat_lt 0 (length report.rows)) (said version what)

-- ---- a version against another one, stage by stage of the same name

abbrev pub comparison_said : Comparison → PlainVersion → PlainVersion → Report
comparison_said compared.Changes version against = record {
  head = a_head.ChangesAgainst version.number against.number;
  rows = rows_at listing.ChangesAgainst version against (all_places version.graph.places);
}
comparison_said compared.Drift version against = record {
  head = a_head.DriftAgainst version.number against.number;
  rows = rows_at listing.ShiftsAgainst version against (all_places version.graph.places);
}

-- ---- which stages are worth making faster

-- the stage, and these trials, of which all are counted
abbrev pub trials_listed : PlainVersion → ℕ → SweepAsked → List Trial → Stage → Report
trials_listed version target asked trials stage = record {
  head = a_head.Sweep version.number stage.name (moment_in (state_of version.graph target)) (told_haste asked.haste) (length trials);
  rows = map (trial_row version.graph (ticks_of (completion_of version.graph target))) (first_of asked.most trials);
}

abbrev pub sweep_of_stage : PlainVersion → ℕ → SweepAsked → Stage → Report
sweep_of_stage version target asked stage = trials_listed version target asked (ending_so asked.ending (sweep version.graph asked.haste target)) stage

-- what a sweep says of a target; none where it is not live
abbrev pub sweep_said : PlainVersion → ℕ → SweepAsked → Option Report
sweep_said version target asked = option_map (sweep_of_stage version target asked) (stage_at version.graph.places target)

-- ---- how much longer stages may run

-- the stage, and these slacks
abbrev pub slacks_listed : PlainVersion → ℕ → List Slack → Stage → Report
slacks_listed version target slacks stage = record {
  head = a_head.Slack version.number stage.name (moment_in (state_of version.graph target)) (length slacks);
  rows = map (slack_row version.graph) slacks;
}

abbrev pub slack_of_stage : PlainVersion → ℕ → Option ℕ → Stage → Report
slack_of_stage version target within stage = slacks_listed version target (slacks version.graph target within) stage

-- what the slacks of a target say; none where it is not live
abbrev pub slack_said : PlainVersion → ℕ → Option ℕ → Option Report
slack_said version target within = option_map (slack_of_stage version target within) (stage_at version.graph.places target)

-- ---- which changes would have saved a reply

-- the stage, how many changes were tried, and these rescues
abbrev pub rescues_listed : PlainVersion → ℕ → RescueTerms → ℕ → List Rescue → Stage → Report
rescues_listed version target terms tried saved stage = record {
  head = a_head.Rescue version.number stage.name (standing_at version.graph target) terms.by tried (length saved);
  rows = map (rescue_row version.graph) (first_of terms.most saved);
}

abbrev pub rescue_of_stage : PlainVersion → ℕ → RescueTerms → Stage → Report
rescue_of_stage version target terms stage =
    rescues_listed version target terms (length (trials version.graph target terms.by terms.value)) (rescues version.graph target terms.by terms.value) stage

-- what the rescues of a target say; none where it is not live
abbrev pub rescue_said : PlainVersion → ℕ → RescueTerms → Option Report
rescue_said version target terms = option_map (rescue_of_stage version target terms) (stage_at version.graph.places target)

-- ---- in which stages two runs differ

-- of a good run and a bad one, where they are compared for the stage that stands at these places
abbrev pub differences_said : PlainGraph → ℕ → PlainGraph → ℕ → Report
differences_said good at_good bad at_bad = record {
  head = a_head.Differences (name_at bad at_bad) (standing_at good at_good) (standing_at bad at_bad);
  rows = map (difference_row good bad) (differences good at_good bad at_bad);
}
