-- The stage that a change makes of a stage.
use Rattle.std.specs.Prelude.{Some}
use Rattle.act_expr.specs.declared.outcome.Outcome.TheVariants.{Value as Normal}
use Rattle.stage_graph.specs.declared.stage.Stage.{Stage}
use Rattle.reply_rescue.specs.declared.change.Change.{Change}
use Rattle.reply_rescue.specs.declared.change.Change.TheVariants.{NoTime, NotQueued, NoFailure, WithoutEnd, TwiceTheDelay}
use Rattle.reply_rescue.specs.Ends.{with_longer_end, without_end}

-- a pinned result leaves the moment of the completion as it is
abbrev pub changed : Stage → Change → Stage
changed stage NoTime = record stage { runs = 0 }
changed stage NotQueued = record stage { queued = 0 }
changed stage (NoFailure value) = record stage { pin_result = Some (Normal value) }
changed stage (WithoutEnd index) = record stage { ends = without_end stage.ends index }
changed stage (TwiceTheDelay index) = record stage { ends = with_longer_end stage.ends index }
