use Rattle.std.proofs.Common.{arith, rules}
use Rattle.std.proofs.lemmas.Grind.{common_steps}
use Rattle.trace_relations.proofs.Trying.{once_is, once_kept, range_push}
use Rattle.trace_relations.proofs.attempts.tried_once.Goals as goal

pub loop-place-preserved : goal.loop-place-preserved
loop-place-preserved c = (grind (arith, common_steps, range_push c.loop-place.place), grind (arith, common_steps, range_push c.loop-place.place))

pub returns-clause-once : goal.returns-clause-once
returns-clause-once c =
    once_is c.args.count (record { next = c.in_ok-next.next; previous = c.in_ok-previous.previous; first = c.loop-place.first; last = c.loop-place.last })
    (record { next = c.in_ok-next.ensures; previous = c.in_ok-previous.ensures; first = search rules; last = search rules })

pub returns-clause-kept : goal.returns-clause-kept
returns-clause-kept c =
    once_kept c.args.count (record { next = c.in_ok-next.next; previous = c.in_ok-previous.previous; first = c.loop-place.first; last = c.loop-place.last })
    (record { next = c.in_ok-next.ensures; previous = c.in_ok-previous.ensures; first = search rules; last = search rules })
