use Rattle.std.proofs.Common.{arith}
use Rattle.stage_graph.specs.Changes.{changed}
use Rattle.change_words.proofs.MakingLemmas.{edit_refused, refused_low}
use Rattle.change_words.proofs.making.changed_by.Goals as goal

pub overflow_add-at : goal.overflow_add-at
overflow_add-at g c =
    let refused = edit_refused c.in-Err-Refused.field-0 c.in-Err-Refused.refused (changed c.args.own.now c.args.graph.now) c.in-Err-Refused.field-0-is c.in-Err-Refused.ensures.changed in
    let low = refused_low c.args.own.now c.args.graph.now c.in-Err-Refused.refused refused in
    let few = c.as_slice.ensures.few in
    omega arith
