use Rattle.std.proofs.Common.{◌∙◌, ◌+◌, ap, arith, length}
use Rattle.std.proofs.lemmas.List.{length_push}
use Rattle.trace_relations.proofs.Circling.{lines_doubled, more_levels, no_levels, power_has_all, told_whole, whole_have_all}
use Rattle.trace_relations.proofs.Lineage.{lines_of_one}
use Rattle.trace_relations.proofs.hosts.levels_of.Goals as goal

pub loop-power-init : goal.loop-power-init
loop-power-init c = (
  ap length c.in_ok-levels.ensures.items,
  no_levels c.args.intervals.now c.args.parents.now c.in_ok-levels.levels.items c.in_ok-levels.ensures.items,
  lines_of_one c.args.intervals.now c.args.parents.now c.in_ok-lines.lines.items c.in_ok-lines.ensures,
)

pub loop-power-preserved : goal.loop-power-preserved
loop-power-preserved c = (
  ap length c.in_ok-push.ensures.items ∙ length_push c.loop-power.levels.items c.loop-power.lines ∙ ap (λ n. n + 1) c.loop-power.invariant.0,
  more_levels c.args.intervals.now c.args.parents.now c.loop-power.levels.items c.push.new.self.items c.loop-power.lines c.loop-power._power c.loop-power.invariant.0 c.loop-power.invariant.1 c.loop-power.invariant.2 c.in_ok-push.ensures.items,
  lines_doubled c.args.intervals.now c.args.parents.now c.loop-power._power c.loop-power.lines.items c.deref-in-loop-power.result.now c.in_ok-more.more.items c.deref-in-loop-power.ensures.value c.loop-power.invariant.2 c.in_ok-more.ensures,
)

pub returns : goal.returns
returns c = (omega arith, c.loop-power.invariant.1, power_has_all c.args.parents.now (length c.loop-power.levels.items) (omega arith))

pub returns-then-are_whole : goal.returns-then-are_whole
returns-then-are_whole c = (
  omega arith,
  c.loop-power.invariant.1,
  rw c.loop-power.invariant.0 (whole_have_all c.args.intervals.now c.args.parents.now c.loop-power._power c.loop-power.lines.items (omega arith) c.loop-power.invariant.2 (told_whole c.are_whole.result c.deref.result.now c.loop-power.lines.items c.if-are_whole.true c.deref.ensures.value c.are_whole.ensures)),
)
