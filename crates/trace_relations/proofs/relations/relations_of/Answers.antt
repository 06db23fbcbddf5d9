use Rattle.std.proofs.Common.{◌∙◌, ap, arith, length}
use Rattle.trace_relations.specs.Relations.{relations_with}
use Rattle.trace_relations.proofs.Ending.{ended_by_start, ended_long, ticks_long}
use Rattle.trace_relations.proofs.relations.relations_of.Goals as goal

pub related-requires-clause-order : goal.related-requires-clause-order
related-requires-clause-order c =
    ended_by_start c.args.as_told c.args.spans.now c.in_ok-timed.timed.order.items c.in_ok-timed.ensures.told c.in_ok-timed.timed.intervals.items c.in_ok-timed.ensures.ended_with c.in_ok-timed.ensures.by_start

pub related-requires-clause-count : goal.related-requires-clause-count
related-requires-clause-count c =
    ap length c.in_ok-timed.ensures.ended_with ∙ ended_long c.args.as_told c.args.spans.now c.in_ok-timed.timed.order.items c.in_ok-timed.ensures.told
    ∙ ticks_long c.args.unit c.args.as_told c.args.spans.now c.in_ok-timed.timed.origin c.in_ok-timed.ensures.told c.in_ok-timed.ensures.ticks

pub returns : goal.returns
returns c = (
  omega arith,
  (
    c.in_ok-timed.timed.origin,
    c.in_ok-timed.ensures.told,
    c.in_ok-timed.timed.order.items,
    c.in_ok-timed.ensures.ticks,
    c.in_ok-timed.ensures.by_start,
    c.in_ok-relations.ensures.related ∙ ap (λ intervals. relations_with c.args.as_told c.args.spans.now c.in_ok-timed.timed.origin intervals c.in_ok-timed.timed.order.items) c.in_ok-timed.ensures.ended_with,
  ),
  c.in_ok-relations.ensures.moved ∙ c.in_ok-timed.ensures.moved,
)
