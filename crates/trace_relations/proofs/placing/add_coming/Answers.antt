use Rattle.std.proofs.Common.{arith, get_or, refl}
use Rattle.std.specs.BinaryHeap.{heap_items}
use Rattle.trace_relations.proofs.Numbering.{none_joined, one_joined}
use Rattle.trace_relations.proofs.placing.add_coming.Goals as goal

pub loop-number-init : goal.loop-number-init
loop-number-init c = none_joined c.args.numbers.now (heap_items c.args.coming.now)

pub loop-number-preserved : goal.loop-number-preserved
loop-number-preserved c =
    one_joined c.args.numbers.now c.loop-number.number-index (record { 0 = get_or c.args.numbers.now c.loop-number.number-index 0 }) (heap_items c.args.coming.now) (heap_items c.loop-number.coming) (heap_items c.push.new.self) (omega arith) refl c.loop-number.invariant c.in_ok-push.ensures.permutation c.in_ok-push.ensures.heap_order
