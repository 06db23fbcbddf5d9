use Rattle.std.proofs.Common.{◌≡◌, ◌-◌, ◌++◌, List}
use Rattle.trace_stages.specs.Order.{Puts, most_needed, needed}
use Rattle.trace_stages.specs.Scene.{plain_scene}
use Rattle.trace_stages.specs.declared.walk.stage_id.StageId.{StageId}
use Rattle.trace_stages.proofs.order.needed_before.Given as goal

-- the joins so far, and those before them
abbrev pub invariant-loop-passed : goal.invariant-loop-passed
invariant-loop-passed l = (order : List StageId) → Puts l.fn.put order
    → (needed (plain_scene l.scene) order most_needed l.fn.source ≡ l.joins.items ++ needed (plain_scene l.scene) (order ++ l.joins.items) (most_needed - l._passed) l.next) × Puts l.put (order ++ l.joins.items)
