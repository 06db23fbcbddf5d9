-- What is left of what rows are made of.
use Rattle.std.specs.Prelude.{ℕ, List, drop, map}
use Rattle.report_rows.specs.declared.row.Row.{Row}
use Rattle.report_rows.specs.declared.source.Source.{Source}
use Rattle.report_rows.specs.declared.source.Source.TheVariants.{Stages, Trials, Slacks, Rescues, Differences, Ends, Failures}
use Rattle.report_rows.specs.Failures.{named_row}
use Rattle.report_rows.specs.Listings.{rows_at}
use Rattle.report_rows.specs.Rows.{difference_row, end_row, rescue_row, slack_row, trial_row}

-- the rows of what is left after so many; the types are the representation's, and no row knows them
abbrev pub rows_left : {R S T U V : Type 0} → Source R S T U V → ℕ → List Row
rows_left (Stages listing version against places) at = rows_at listing version.now against.now (drop at places.items)
rows_left (Trials version tick trials) at = map (trial_row version.now.graph tick) (drop at trials.items)
rows_left (Slacks version slacks) at = map (slack_row version.now.graph) (drop at slacks.items)
rows_left (Rescues version rescues) at = map (rescue_row version.now.graph) (drop at rescues.items)
rows_left (Differences good bad differences) at = map (difference_row good.now.graph bad.now.graph) (drop at differences.items)
rows_left (Ends version ends) at = map (end_row version.now.graph) (drop at ends.items)
rows_left (Failures failures) at = map named_row (drop at failures.items)
