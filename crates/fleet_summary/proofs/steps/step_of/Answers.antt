use Rattle.std.proofs.Common.{◌≤◌, ◌*◌, ◌-◌, subst, sym, arith}
use Rattle.fleet_summary.specs.Steps.{step_of, upper_end}
use Rattle.fleet_summary.proofs.StepPlaces.{step_of-shifted, step_of-counted, le-upper_end, upper_end-near, step_of-ordered}
use Rattle.fleet_summary.proofs.steps.step_of.Goals as goal

pub overflow_cast-result-2 : goal.overflow_cast-result-2
overflow_cast-result-2 c =
    omega (arith, step_of-shifted c.args.time c.saturating_sub-below.result c.saturating_sub-below.ensures, step_of-counted c.args.time c.ranges.time.fits)

pub overflow_add-result : goal.overflow_add-result
overflow_add-result c =
    omega (arith, step_of-shifted c.args.time c.saturating_sub-below.result c.saturating_sub-below.ensures, step_of-counted c.args.time c.ranges.time.fits)

pub returns-clause-value : goal.returns-clause-value
returns-clause-value c = step_of-shifted c.args.time c.saturating_sub-below.result c.saturating_sub-below.ensures

pub returns-clause-counted : goal.returns-clause-counted
returns-clause-counted c =
    omega (arith, step_of-shifted c.args.time c.saturating_sub-below.result c.saturating_sub-below.ensures, step_of-counted c.args.time c.ranges.time.fits)

pub returns-clause-reached : goal.returns-clause-reached
returns-clause-reached c =
    subst (λ step. c.args.time ≤ upper_end step)
    (sym (step_of-shifted c.args.time c.saturating_sub-below.result c.saturating_sub-below.ensures))
    (le-upper_end c.args.time c.ranges.time.fits)

pub returns-clause-near : goal.returns-clause-near
returns-clause-near c =
    subst (λ step. 64 * (upper_end step - c.args.time) ≤ c.args.time)
    (sym (step_of-shifted c.args.time c.saturating_sub-below.result c.saturating_sub-below.ensures))
    (upper_end-near c.args.time c.ranges.time.fits)

pub returns-clause-ordered : goal.returns-clause-ordered
returns-clause-ordered c later fits order =
    subst (λ step. step ≤ step_of later)
    (sym (step_of-shifted c.args.time c.saturating_sub-below.result c.saturating_sub-below.ensures))
    (step_of-ordered c.args.time later c.ranges.time.fits fits order)
