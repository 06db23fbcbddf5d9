-- Single changes of stages, as reports tell them.
use Rattle.std.specs.Prelude.{ℕ}
use Rattle.stage_graph.specs.Plain.{PlainGraph}
use Rattle.reply_rescue.specs.declared.change.Change.{Change}
use Rattle.reply_rescue.specs.declared.change.Change.TheVariants as change
use Rattle.report_rows.specs.declared.tried_change.TriedChange.{TriedChange}
use Rattle.report_rows.specs.declared.tried_change.TriedChange.TheVariants as tried
use Rattle.report_rows.specs.Ends.{end_at, is_only_timeout}

-- of the stage at a place, with the end that it changes
abbrev pub tried_change : PlainGraph → ℕ → Change → TriedChange
tried_change graph place change.NoTime = tried.NoTime
tried_change graph place change.NotQueued = tried.NotQueued
tried_change graph place (change.NoFailure value) = tried.NoFailure value
tried_change graph place (change.WithoutEnd index) = tried.WithoutEnd index (end_at graph place index) (is_only_timeout graph place index)
tried_change graph place (change.TwiceTheDelay index) = tried.TwiceTheDelay index (end_at graph place index) (is_only_timeout graph place index)
