use Rattle.std.proofs.Common.{◌++◌, [], ◌∷◌, ◌∙◌, ap, arith, pos, refl}
use Rattle.trace_relations.proofs.Clocked.{all_timed, times_more}
use Rattle.trace_relations.proofs.placing.times_as_told.Goals as goal

pub loop-span-preserved : goal.loop-span-preserved
loop-span-preserved c =
    times_more (λ place. pos 0) c.args.spans.now c.loop-span.span-index c.span-item.result c.loop-span.times.items c.push.new.self.items (pos 0) (omega arith) c.span-item.is refl
    (c.in_ok-push.ensures.items ∙ ap (λ t. c.loop-span.times.items ++ t ∷ []) c.times_moved.ensures) c.loop-span.invariant

pub returns : goal.returns
returns c = all_timed (λ place. pos 0) c.args.spans.now c.loop-span.span-index c.loop-span.times.items (omega arith) c.loop-span.invariant
