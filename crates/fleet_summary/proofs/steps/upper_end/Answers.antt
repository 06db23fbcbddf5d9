use Rattle.std.proofs.Common.{◌≡◌, ◌<◌, subst, sym, arith}
use Rattle.fleet_summary.specs.Steps.{step_of}
use Rattle.fleet_summary.proofs.StepPlaces.{upper_end-shifted, upper_end-fits, step_of-upper_end, upper_end-greatest}
use Rattle.fleet_summary.proofs.steps.upper_end.Goals as goal

pub overflow_add-result : goal.overflow_add-result
overflow_add-result c =
    omega (arith, upper_end-shifted c.args.step c.saturating_sub-below.result c.from.result c.requires c.saturating_sub-below.ensures c.from.ensures, upper_end-fits c.args.step c.requires)

pub returns-clause-value : goal.returns-clause-value
returns-clause-value c = upper_end-shifted c.args.step c.saturating_sub-below.result c.from.result c.requires c.saturating_sub-below.ensures c.from.ensures

pub returns-clause-own : goal.returns-clause-own
returns-clause-own c =
    subst (λ time. step_of time ≡ c.args.step)
    (sym (upper_end-shifted c.args.step c.saturating_sub-below.result c.from.result c.requires c.saturating_sub-below.ensures c.from.ensures))
    (step_of-upper_end c.args.step c.requires)

pub returns-clause-greatest : goal.returns-clause-greatest
returns-clause-greatest c later fits above =
    upper_end-greatest c.args.step later c.requires fits
    (subst (λ time. time < later) (upper_end-shifted c.args.step c.saturating_sub-below.result c.from.result c.requires c.saturating_sub-below.ensures c.from.ensures) above)
