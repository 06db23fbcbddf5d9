use Rattle.std.proofs.Common.{arith}
use Rattle.trace_relations.specs.Relations.{plain}
use Rattle.trace_stages.proofs.Bounding.{first_lines, lines_doubled, told_whole, whole_by_count, whole_by_ends}
use Rattle.trace_stages.proofs.bounds.whole_lines.Goals as goal

pub loop-doubling-init : goal.loop-doubling-init
loop-doubling-init c = first_lines (plain c.args.relations.now) c.in_ok-lines.lines.items c.in_ok-lines.ensures

pub loop-doubling-preserved : goal.loop-doubling-preserved
loop-doubling-preserved c = lines_doubled (plain c.args.relations.now) c.loop-doubling._doubling c.loop-doubling.lines.items c.deref-in-loop-doubling.result.now c.in_ok-more.more.items c.deref-in-loop-doubling.ensures.value c.loop-doubling.invariant c.in_ok-more.ensures

pub returns : goal.returns
returns c = whole_by_count (plain c.args.relations.now) c.loop-doubling._doubling c.loop-doubling.lines.items (omega arith) c.loop-doubling.invariant

pub returns-then-are_whole : goal.returns-then-are_whole
returns-then-are_whole c = whole_by_ends (plain c.args.relations.now) c.loop-doubling._doubling c.loop-doubling.lines.items (omega arith) c.loop-doubling.invariant (told_whole (plain c.args.relations.now) c.are_whole.result c.deref.result.now c.loop-doubling.lines.items c.if-are_whole.true c.deref.ensures.value c.are_whole.ensures)
