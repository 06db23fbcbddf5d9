use Rattle.std.proofs.Common.{◌≡◌, ◌-◌, ◌++◌, map}
use Rattle.trace_stages.specs.Order.{attempts_before, most_needed}
use Rattle.trace_stages.specs.Scene.{plain_scene}
use Rattle.trace_stages.specs.declared.walk.stage_id.StageId.TheVariants.{Tried}
use Rattle.trace_stages.proofs.order.put_tried.Given as goal

-- those so far, and those before them
abbrev pub invariant-loop-passed : goal.invariant-loop-passed
invariant-loop-passed l =
    l.fn.ids.items ++ map Tried (attempts_before (plain_scene l.scene) most_needed ((plain_scene l.scene).known.relations.attempts.previous l.place))
    ≡ l.ids.items ++ map Tried (attempts_before (plain_scene l.scene) (most_needed - l._passed) ((plain_scene l.scene).known.relations.attempts.previous l.at))
