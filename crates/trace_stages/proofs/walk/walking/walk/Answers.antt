use Rattle.std.proofs.Common.{arith, subst, sym, take}
use Rattle.trace_stages.specs.declared.walk.event.Event.TheVariants.{Starts}
use Rattle.trace_stages.specs.Held.{PlainHolding}
use Rattle.trace_stages.specs.KeptWalk.{Holds}
use Rattle.trace_stages.specs.Walk.{walked}
use Rattle.trace_stages.proofs.Steps.{walked_more}
use Rattle.trace_stages.proofs.walk.walking.walk.Goals as goal

pub loop-event-preserved : goal.loop-event-preserved
loop-event-preserved c =
    let P : PlainHolding → Type 0 = λ plain. Holds c.after.new.holding plain in
    subst P (sym (walked_more c.args.span c.args.start c.args.events.now c.loop-event.event-index (Starts 0 0) (omega arith)))
    (c.in_ok-after.ensures (walked c.args.span c.args.start (take c.loop-event.event-index c.args.events.now)) c.loop-event.invariant)
