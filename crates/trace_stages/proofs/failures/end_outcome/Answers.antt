use Rattle.std.proofs.Common.{◌∙◌, ap}
use Rattle.trace_stages.specs.Known.{had_at, plain_hads, plain_known}
use Rattle.trace_stages.specs.Outcomes.{failing, plain_sight}
use Rattle.trace_stages.specs.PlainJoins.{plain_joins}
use Rattle.trace_stages.proofs.Failing.{ends_as}
use Rattle.trace_stages.proofs.failures.end_outcome.Goals as goal

pub returns : goal.returns
returns c =
    ends_as (plain_known c.args.known.now) (failing c.args.failures.now) c.args.place (plain_sight c.own_sight-sight.result) (plain_joins c.joins_at-joins.result.now) c.in_ok-own.own.items c.deref-2.result.now c.has_at.result c.outcome_of.result
    c.own_sight-sight.ensures
    (c.joins_at-joins.ensures ∙ ap (λ those. (had_at (plain_hads those) c.args.place).joins) c.deref.ensures.value)
    c.in_ok-own.ensures
    c.deref-2.ensures.value
    (c.has_at.ensures ∙ ap (λ those. (had_at (plain_hads those) c.args.place).has) c.deref-3.ensures.value)
    c.outcome_of.ensures
