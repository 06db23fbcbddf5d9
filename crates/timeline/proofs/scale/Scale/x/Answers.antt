use Rattle.std.proofs.Common.{arith}
use Rattle.timeline.proofs.Quotients.{units_monotone}
use Rattle.timeline.proofs.scale.Scale.x.Goals as goal

pub returns-clause-monotone : goal.returns-clause-monotone
returns-clause-monotone c = λ later order.
    let value = c.units_into.ensures.value in
    let monotone = units_monotone c.args.self.now c.args.tick later order in
    omega (arith, value, monotone)
