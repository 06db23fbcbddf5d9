-- What it means that the exception of a stage did not arise.
use Rattle.std.specs.Prelude.{ℕ, ◌≡◌, Bool, true, false, Option, Some}
use Rattle.act_expr.specs.declared.outcome.Mode.{Mode}
use Rattle.act_expr.specs.declared.outcome.Outcome.TheVariants.{Value as Normal}
use Rattle.act_expr.specs.declared.outcome.Value.{Value}
use Rattle.stage_graph.specs.declared.stage.Stage.{Stage}
use Rattle.stage_ops.specs.declared.reason.Cause.{Cause}
use Rattle.stage_ops.specs.declared.reason.Cause.TheVariants.{Ended}
use Rattle.stage_ops.specs.declared.state.Done.{Done}
use Rattle.stage_ops.specs.Java.{java_step}
use Rattle.stage_ops.specs.Pinned.{set_to}
use Rattle.stage_ops.specs.Reasons.{reason}
use Rattle.stage_ops.specs.States.{Completion}
use Rattle.reply_rescue.specs.declared.change.Change.TheVariants.{NoFailure}
use Rattle.reply_rescue.specs.Changed.{changed}

-- an end completed the stage
abbrev pub is_ended : Cause → Bool
is_ended (Ended index) = true
is_ended others = false

-- a stage that no end completed has the value instead, at the moment at which it completed
abbrev pub EachKeepsItsMoment : Type 0
EachKeepsItsMoment =
    (mode : Mode) (stage : Stage) (inputs : ℕ → Option Completion) (value : Value) (done : Done)
    → (java_step mode stage inputs).done ≡ Some done → is_ended (reason mode stage inputs).cause ≡ false
    → (java_step mode (changed stage (NoFailure value)) inputs).done ≡ Some (set_to (Normal value) done.moment)
