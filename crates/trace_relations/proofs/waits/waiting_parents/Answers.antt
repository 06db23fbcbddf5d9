use Rattle.std.proofs.Common.{arith, zero-add}
use Rattle.std.proofs.lemmas.Grind.{common_steps}
use Rattle.std.proofs.lemmas.List.FromFn.{map-range_with_len_more}
use Rattle.trace_relations.specs.Waits.{waiting_parent}
use Rattle.trace_relations.proofs.waits.waiting_parents.Goals as goal

pub loop-place-preserved : goal.loop-place-preserved
loop-place-preserved c = grind (arith, common_steps, map-range_with_len_more (waiting_parent c.args.spans.now c.args.intervals.now c.args.references.now c.args.parents.now) 0 c.loop-place.place c.loop-place.place (zero-add c.loop-place.place))
