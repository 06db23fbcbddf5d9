use Rattle.std.proofs.Common.{arith}
use Rattle.trace_relations.proofs.Circling.{all_lines, lines_doubled, told_whole, whole_lines}
use Rattle.trace_relations.proofs.Lineage.{lines_of_one}
use Rattle.trace_relations.proofs.circles.longest_lines.Goals as goal

pub loop-power-init : goal.loop-power-init
loop-power-init c = lines_of_one c.args.intervals.now c.args.parents.now c.in_ok-lines.lines.items c.in_ok-lines.ensures

pub loop-power-preserved : goal.loop-power-preserved
loop-power-preserved c = lines_doubled c.args.intervals.now c.args.parents.now c.loop-power._power c.loop-power.lines.items c.deref-in-loop-power.result.now c.in_ok-more.more.items c.deref-in-loop-power.ensures.value c.loop-power.invariant c.in_ok-more.ensures

pub returns : goal.returns
returns c = all_lines c.args.intervals.now c.args.parents.now c.loop-power._power c.loop-power.lines.items (omega arith) c.loop-power.invariant

pub returns-then-are_whole : goal.returns-then-are_whole
returns-then-are_whole c = whole_lines c.args.intervals.now c.args.parents.now c.loop-power._power c.loop-power.lines.items (omega arith) c.loop-power.invariant (told_whole c.are_whole.result c.deref.result.now c.loop-power.lines.items c.if-are_whole.true c.deref.ensures.value c.are_whole.ensures)
