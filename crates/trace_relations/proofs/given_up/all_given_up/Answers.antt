use Rattle.std.proofs.Common.{arith, zero-add}
use Rattle.std.proofs.lemmas.Grind.{common_steps}
use Rattle.std.proofs.lemmas.List.FromFn.{map-range_with_len_more}
use Rattle.trace_relations.specs.GivenUp.{given_up_by}
use Rattle.trace_relations.specs.KeptCalled.{called_with}
use Rattle.trace_relations.proofs.given_up.all_given_up.Goals as goal

pub loop-place-preserved : goal.loop-place-preserved
loop-place-preserved c =
    let by = c.in_ok-by.ensures c.args.order.now c.requires.places c.loop-place.invariant.1 c.requires.parents in (
      grind (arith, common_steps, by, map-range_with_len_more (given_up_by (called_with c.args.called) c.args.order.now) 0 c.loop-place.place c.loop-place.place (zero-add c.loop-place.place)),
      c.loop-place.invariant.1,
    )
