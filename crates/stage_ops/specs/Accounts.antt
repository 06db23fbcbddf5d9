-- How a stage's reason accounts for its state.
use Rattle.std.specs.Prelude.{ℕ, ◌≡◌, ◌≤◌, All, [], length, IsTrue, Option, None, IfSome, is_some}
use Rattle.std.specs.Option.{option_map}
use Rattle.act_expr.specs.declared.outcome.Mode.{Mode}
use Rattle.stage_graph.specs.declared.stage.Stage.{Stage}
use Rattle.stage_graph.specs.Checks.{has_arity}
use Rattle.stage_ops.specs.declared.reason.Cause.{Cause}
use Rattle.stage_ops.specs.declared.reason.Cause.TheVariants.{Created, After, Inner, Pinned, Ended, Waiting, Open}
use Rattle.stage_ops.specs.declared.reason.Reason.{Reason}
use Rattle.stage_ops.specs.declared.state.Done.{Done}
use Rattle.stage_ops.specs.declared.state.Reads.{Reads}
use Rattle.stage_ops.specs.States.{Completion, IsReadBy}
use Rattle.stage_ops.specs.Ended.{done_moment}
use Rattle.stage_ops.specs.Java.{java_step}
use Rattle.stage_ops.specs.Reasons.{feed_in, later_by, reason, tick_of, waited_for}
use Rattle.stage_ops.specs.Sources.{source_at}

pub record IsAccount (stage : Stage) (inputs : ℕ → Option Completion) (reads : Reads) (done : Option Done) (reason : Reason) : Type 0 where
  -- the completion comes the reason's own ticks after its cause; there is none while the cause has not come
  pub adds_up : option_map done_moment done ≡ option_map (later_by reason) (tick_of stage inputs reason.cause)
  -- the feed that the cause names was read
  pub read : IfSome (feed_in reason.cause) (IsReadBy stage reads)
  -- it has completed if and only if the stage has
  pub alike : IfSome (feed_in reason.cause) (λ feed. is_some (inputs feed) ≡ is_some done)

-- each stage's reason accounts for its state
abbrev pub EachAccounts : Type 0
EachAccounts =
    (mode : Mode) (stage : Stage) (inputs : ℕ → Option Completion)
    → IsAccount stage inputs (java_step mode stage inputs).reads (java_step mode stage inputs).done (reason mode stage inputs)

-- the trigger is as late as the cause says: nothing that the stage waited for came later
abbrev pub IsLatest : Stage → (ℕ → Option Completion) → Cause → Type 0
IsLatest stage inputs Created = All (λ source. source.moment ≤ stage.created) (waited_for stage.op stage inputs)
IsLatest stage inputs (After place) =
    IfSome (source_at inputs place) (λ last. (stage.created ≤ last.moment) × All (λ source. source.moment ≤ last.moment) (waited_for stage.op stage inputs))
IsLatest stage inputs (Inner place) = Unit {0}
IsLatest stage inputs Pinned = Unit {0}
IsLatest stage inputs (Ended index) = Unit {0}
IsLatest stage inputs (Waiting place) = Unit {0}
IsLatest stage inputs Open = Unit {0}

abbrev pub EachIsLatest : Type 0
EachIsLatest = (mode : Mode) (stage : Stage) (inputs : ℕ → Option Completion) → IsLatest stage inputs (reason mode stage inputs).cause

-- the cause is open exactly for a pending stage that names no source: a stage whose cause is open names none, and one that names none and is pending has that cause
abbrev pub EachIsOpen : Type 0
EachIsOpen =
    (mode : Mode) (stage : Stage) (inputs : ℕ → Option Completion) → IsTrue (has_arity stage.op (length stage.sources) (length stage.inner))
    → ((reason mode stage inputs).cause ≡ Open → ((java_step mode stage inputs).done ≡ None) × (stage.sources ≡ []))
    × ((java_step mode stage inputs).done ≡ None → stage.sources ≡ [] → (reason mode stage inputs).cause ≡ Open)
