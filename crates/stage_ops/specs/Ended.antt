-- The state of a stage after its ends.
use Rattle.std.specs.Prelude.{ℕ, List, Option, codes, ◌+◌, ◌++◌, map}
use Rattle.act_expr.specs.declared.outcome.Outcome.{Outcome}
use Rattle.act_expr.specs.declared.outcome.Outcome.TheVariants.{Value as Normal, Bare}
use Rattle.stage_graph.specs.declared.stage.Stage.{Stage}
use Rattle.stage_ops.specs.declared.state.Done.{Done}
use Rattle.stage_ops.specs.Earliest.{earliest}
use Rattle.std.specs.Option.{option_to_list}
use Rattle.stage_graph.specs.declared.end.Act.{Act}
use Rattle.stage_graph.specs.declared.end.Act.TheVariants.{Complete, CompleteExceptionally, Cancel, OrTimeout, CompleteOnTimeout}
use Rattle.stage_graph.specs.declared.end.End.{End}
use Rattle.stage_graph.specs.Checks.{delay_of}
use Rattle.stage_ops.specs.Pinned.{set_to}

abbrev pub cancellation : List ℕ
cancellation = codes "java.util.concurrent.CancellationException"

abbrev pub timeout : List ℕ
timeout = codes "java.util.concurrent.TimeoutException"

-- when an end acts: a timeout acts `delay` ticks after `at`
abbrev pub acts_at : End → ℕ
acts_at end = end.at + delay_of end.act

-- the completion that an end sets
abbrev pub outcome_set : Act → Outcome
outcome_set (Complete value) = Normal value
outcome_set (CompleteExceptionally name) = Bare name
outcome_set Cancel = Bare cancellation
outcome_set (OrTimeout delay) = Bare timeout
outcome_set (CompleteOnTimeout delay value) = Normal value

abbrev pub set_by : End → Done
set_by end = set_to (outcome_set end.act) (acts_at end)

abbrev pub done_moment : Done → ℕ
done_moment done = done.moment

-- the earliest of the completion and the ends, the completion before the ends and these in list order
abbrev pub ended : Stage → Option Done → Option Done
ended stage completion = earliest done_moment (option_to_list completion ++ map set_by stage.ends)
