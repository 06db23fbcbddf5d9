use Rattle.std.proofs.Common.{◌∙◌, ap, subst, sym}
use Rattle.std.specs.Prelude.{filter, fold}
use Rattle.trace_relations.specs.Attempts.{is_failed_call, tried_again}
use Rattle.trace_relations.specs.Groups.{AreGroups}
use Rattle.trace_relations.specs.KeptAttempts.{calls_with}
use Rattle.trace_relations.proofs.attempts.attempts_of.Goals as goal

pub tried_in-requires-clause-groups : goal.tried_in-requires-clause-groups
tried_in-requires-clause-groups c =
    subst (λ those. AreGroups (calls_with c.args.calls) c.args.order.now those c.in_ok-groups.groups) (sym c.in_ok-attempts.ensures.once) c.in_ok-groups.ensures

pub returns : goal.returns
returns c =
    c.tried_in.ensures ∙ ap (λ first. fold (tried_again (calls_with c.args.calls) c.args.order.now) first (filter (is_failed_call (calls_with c.args.calls)) c.args.order.now)) c.in_ok-attempts.ensures.once
