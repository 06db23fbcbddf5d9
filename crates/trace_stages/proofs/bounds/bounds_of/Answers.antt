use Rattle.std.proofs.Common.{arith, zero-add}
use Rattle.std.proofs.lemmas.Grind.{common_steps}
use Rattle.std.proofs.lemmas.List.FromFn.{map-range_with_len_more}
use Rattle.trace_relations.specs.Relations.{plain}
use Rattle.trace_stages.specs.Bounds.{bound}
use Rattle.trace_stages.proofs.bounds.bounds_of.Goals as goal

pub loop-place-preserved : goal.loop-place-preserved
loop-place-preserved c = grind (arith, common_steps, map-range_with_len_more (bound (plain c.args.relations.now)) 0 c.loop-place.place c.loop-place.place (zero-add c.loop-place.place))

pub bound_of-requires : goal.bound_of-requires
bound_of-requires c = rw c.deref.ensures.value c.in_ok-lines.ensures
