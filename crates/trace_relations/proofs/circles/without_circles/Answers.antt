use Rattle.trace_relations.proofs.Circling.{parents_by_lines_are}
use Rattle.trace_relations.proofs.circles.without_circles.Goals as goal

pub returns : goal.returns
returns c = parents_by_lines_are c.args.intervals.now c.args.parents.now c.in_ok-lines.lines.items c.in_ok-others.others.items c.in_ok-lines.ensures (rw c.deref.ensures.value at c.in_ok-others.ensures)
