use Rattle.std.proofs.Common.{◌∙◌, ◌-◌, arith}
use Rattle.trace_stages.proofs.Coming.{enters_above, enters_lowest}
use Rattle.trace_stages.proofs.tour.touring.visit.Goals as goal

pub returns-in_ok-put_first-in-Enter-clause-same : goal.returns-in_ok-put_first-in-Enter-clause-same
returns-in_ok-put_first-in-Enter-clause-same c = λ parents order has.
    rw c.in-Enter.is (enters_above parents order c.in-Enter.place c.in-Enter.generations (c.in-Enter.generations - 1) c.args.visits.now.items c.push-in-Enter.new.self.items c.args.coming.now.items c.push-in-Enter-2.new.self.items c.put_first.new.coming.items c.children_at.result.now
    (omega arith) c.in_ok-push-in-Enter.ensures.items c.in_ok-push-in-Enter-2.ensures.items c.in_ok-put_first-in-Enter.ensures (c.children_at.ensures ∙ has c.in-Enter.place))

pub returns-else-generations-gt0-clause-same : goal.returns-else-generations-gt0-clause-same
returns-else-generations-gt0-clause-same c = λ parents order has.
    rw c.in-Enter.is (enters_lowest parents order c.in-Enter.place c.in-Enter.generations c.args.visits.now.items c.push-in-Enter.new.self.items c.args.coming.now.items c.push-in-Enter-2.new.self.items
    (omega arith) c.in_ok-push-in-Enter.ensures.items c.in_ok-push-in-Enter-2.ensures.items)
