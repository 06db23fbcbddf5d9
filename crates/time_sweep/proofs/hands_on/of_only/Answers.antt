use Rattle.std.proofs.Common.{sym, subst, arith, refl}
use Rattle.std.specs.Prelude.{Contains}
use Rattle.time_sweep.proofs.HandingOn.{hands_on_only}
use Rattle.time_sweep.proofs.hands_on.of_only.Goals as goal

pub returns-in-Some-clause-hands_on : goal.returns-in-Some-clause-hands_on
returns-in-Some-clause-hands_on c =
    hands_on_only c.args.stage.now c.requires.plain c.args.before.now c.args.feed c.in-Some.done c.in-Some.ensures c.requires.takes c.requires.only
    c.saturating_sub-most.result c.saturating_sub-most.ensures

pub returns-in-Some-clause-source : goal.returns-in-Some-clause-source
returns-in-Some-clause-source c = subst (λ sources. Contains sources c.args.feed) (sym c.requires.only) (0, omega arith, refl)
