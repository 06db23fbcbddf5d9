use Rattle.std.proofs.Common.{◌≡◌, take}
use Rattle.trace_stages.specs.Order.{Puts, ordered}
use Rattle.trace_stages.specs.Scene.{plain_scene}
use Rattle.trace_stages.proofs.order.ordered.Given as goal

-- those of the visits so far
abbrev pub invariant-loop-of_span : goal.invariant-loop-of_span
invariant-loop-of_span l = (l.ids.items ≡ ordered (plain_scene l.scene) (take l.of_span-index l.visits)) × Puts l.put l.ids.items
