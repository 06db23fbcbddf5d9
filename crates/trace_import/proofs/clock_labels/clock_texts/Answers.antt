use Rattle.std.proofs.Common.{pos}
use Rattle.trace_relations.specs.declared.placing.Moved.{Moved}
use Rattle.trace_import.proofs.Clocks.{one_more}
use Rattle.trace_import.proofs.clock_labels.clock_texts.Goals as goal

pub loop-clock-preserved : goal.loop-clock-preserved
loop-clock-preserved c =
    let none : Moved = record { clock = 0; by = pos 0 } in
    rw c.in_ok-insert.ensures.entries
    (one_more c.args.spans.now c.args.moved.now c.loop-clock.clock-index none c.loop-clock.by_text.entries c.in_ok-clock_told.field-0 c.in_ok-by.by c.loop-clock-test.true c.loop-clock.invariant c.in_ok-clock_told.ensures c.in_ok-by.ensures)
