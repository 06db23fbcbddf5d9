use Rattle.std.proofs.Common.{ℕ, ◌≡◌, ◌<◌, ◌≤◌, ◌∙◌, subst, sym, arith}
use Rattle.std.proofs.Math.Nat.{mul-le-mul_right}
use Rattle.fleet_summary.specs.Histogram.{total_of}
use Rattle.fleet_summary.specs.Quantiles.{IsStepOfRank, rank_of}
use Rattle.fleet_summary.proofs.HistogramAt.{total_of-fits}
use Rattle.fleet_summary.proofs.Ranks.{none_counted, quantile-near}
use Rattle.fleet_summary.proofs.histogram.Histogram.quantile.Goals as goal

pub total_of-requires : goal.total_of-requires
total_of-requires c = omega (arith, total_of-fits c.self.inside.numbers.entries c.self.invariant)

pub overflow_mul-part : goal.overflow_mul-part
overflow_mul-part c =
    let part : c.from.result ≤ 100 = omega arith in
    omega (arith, c.total_of.ensures, total_of-fits c.self.inside.numbers.entries c.self.invariant, mul-le-mul_right c.total_of.result part)

pub returns-in_err-step-clause-step : goal.returns-in_err-step-clause-step
returns-in_err-step-clause-step c =
    let rank : c.max.result ≡ rank_of c.args.hundredths (total_of c.self.inside.numbers.entries) = cc in
    rw c.from_residual.ensures
    (sym c.self.view_is
    ∙ none_counted c.args.hundredths c.self.inside.numbers.entries c.self.invariant c.requires (subst (λ (n : ℕ). total_of c.self.inside.numbers.entries < n) rank c.in_err-step.ensures.step))

pub returns-clause-near : goal.returns-clause-near
returns-clause-near c =
    let rank : c.max.result ≡ rank_of c.args.hundredths (total_of c.self.inside.numbers.entries) = cc in
    rw (← c.self.view_is)
    (quantile-near c.args.hundredths c.self.inside.numbers.entries c.in_ok-step.step c.upper_end.result c.self.invariant
    (subst (λ (n : ℕ). IsStepOfRank n c.self.inside.numbers.entries c.in_ok-step.step) rank c.in_ok-step.ensures.step) c.upper_end.ensures.value)
