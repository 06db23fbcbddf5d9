use Rattle.std.proofs.Common.{◌≡◌, ◌∙◌, ◌+◌, ◌<◌, ap, arith, length}
use Rattle.std.proofs.lemmas.List.{length_push}
use Rattle.trace_relations.specs.Moments.{interval_at}
use Rattle.trace_relations.specs.Relations.{plain}
use Rattle.trace_stages.specs.Called.{called_at}
use Rattle.trace_stages.specs.Events.{events_at}
use Rattle.trace_stages.proofs.Pushing.{held_as, one_more_held}
use Rattle.trace_stages.proofs.walk.holdings.holdings_of.Goals as goal

pub loop-span-preserved : goal.loop-span-preserved
loop-span-preserved c =
    let count : c.len-count.result ≡ length c.args.relations.now.intervals.items = omega (arith, c.args.relations.now.intervals.ok.0) in
    let within : c.loop-span.span < length c.args.relations.now.intervals.items = omega (arith, c.args.relations.now.intervals.ok.0) in (
      ap length c.in_ok-push.ensures.items ∙ length_push c.loop-span.holdings.items c.in_ok-holding.holding ∙ ap (λ n. n + 1) c.loop-span.invariant.0,
      one_more_held (plain c.args.relations.now) c.in_ok-moments.moments.items c.loop-span.holdings.items c.push.new.self.items c.in_ok-holding.holding c.loop-span.span c.loop-span.invariant.0 c.loop-span.invariant.1
          (held_as (plain c.args.relations.now) c.in_ok-moments.moments.items c.loop-span.span c.len-count.result c.interval_at-interval.result c.deref-2.result.now c.deref-3.result.now c.events_at.result.now c.called_at.result.now c.in_ok-holding.holding
          (c.interval_at-interval.ensures ∙ ap (λ those. interval_at those c.loop-span.span) c.deref-in-loop-span.ensures.value) count
          c.deref-2.ensures.value
          (c.events_at.ensures ∙ ap (λ all. events_at all c.loop-span.span) c.deref-in-loop-span-2.ensures.value ∙ c.in_ok-events.ensures c.loop-span.span)
          c.deref-3.ensures.value
          (c.called_at.ensures ∙ ap (λ all. called_at all c.loop-span.span) c.deref-in-loop-span-3.ensures.value ∙ c.in_ok-called.ensures c.loop-span.span within)
          c.in_ok-holding.ensures)
          c.in_ok-push.ensures.items,
    )
