use Rattle.std.proofs.Common.{◌++◌, ◌∙◌, sym, ap}
use Rattle.trace_stages.specs.Visits.{pending}
use Rattle.trace_stages.proofs.Coming.{begins, less_to_come, pending-last}
use Rattle.trace_stages.proofs.tour.touring.visits_of.Goals as goal

pub loop-next-init : goal.loop-next-init
loop-next-init c = begins c.args.parents.now c.args.order.now c.in_ok-visits.visits.items c.new-coming.result.items c.put_first.new.coming.items c.deref-2.result.now c.in_ok-first.first.items c.in_ok-visits.ensures.items c.new-coming.ensures.items c.deref-2.ensures.value c.in_ok-first.ensures c.in_ok-put_first.ensures

pub loop-next-preserved : goal.loop-next-preserved
loop-next-preserved c =
    c.in_ok-visit.ensures.same c.args.parents.now c.args.order.now c.requires
    ∙ ap (λ those. c.loop-next.visits.items ++ those) (sym (pending-last c.args.parents.now c.args.order.now c.pop.new.self.items c.loop-next.coming.items c.in-Some.next c.in-Some.ensures.items))
    ∙ c.loop-next.invariant

pub loop-next-smaller : goal.loop-next-smaller
loop-next-smaller c =
    less_to_come c.loop-next.visits.items c.visit.new.visits.items (pending c.args.parents.now c.args.order.now c.visit.new.coming.items) (pending c.args.parents.now c.args.order.now c.loop-next.coming.items) c.in_ok-visit.ensures.one
    (c.in_ok-visit.ensures.same c.args.parents.now c.args.order.now c.requires
    ∙ ap (λ those. c.loop-next.visits.items ++ those) (sym (pending-last c.args.parents.now c.args.order.now c.pop.new.self.items c.loop-next.coming.items c.in-Some.next c.in-Some.ensures.items)))
