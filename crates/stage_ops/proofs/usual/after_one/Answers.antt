use Rattle.std.proofs.Common.{max, sym, ap, subst, ◌∙◌}
use Rattle.stage_ops.specs.declared.usual.Returned.{Returned}
use Rattle.act_expr.specs.declared.outcome.Value.TheVariants.{Null}
use Rattle.stage_ops.specs.States.{seen_at, state_at}
use Rattle.stage_ops.specs.Usual.{as_source, pass_at, IsProgress}
use Rattle.stage_ops.proofs.UsualLemmas.{all_of, decided_by, earliest_of_one, one_is_normal}
use Rattle.stage_ops.proofs.usual.after_one.Goals as goal

pub returns-in-AllOf : goal.returns-in-AllOf
returns-in-AllOf g c =
    let inputs = seen_at (state_at (g.L.Look.states c.args.look.now)) in
    let stage = c.args.stage.now in
    let source = c.in_ok-source.source in
    subst (λ (returned : Returned). IsProgress stage inputs returned) (sym (c.pass_at.ensures ∙ ap (λ trigger. pass_at trigger Null) c.max-trigger.ensures))
    (all_of stage inputs (max stage.created source.moment) c.in-AllOf.is
    (one_is_normal stage inputs c.args.place source c.requires.only c.in_ok-source.ensures.source))

pub returns-in_default : goal.returns-in_default
returns-in_default g c =
    let inputs = seen_at (state_at (g.L.Look.states c.args.look.now)) in
    let stage = c.args.stage.now in
    let source = c.in_ok-source.source in
    decided_by stage inputs source c.max-trigger.result c.after_value.result
    (earliest_of_one inputs stage.sources c.args.place (as_source source) c.requires.only c.in_ok-source.ensures.source) c.max-trigger.ensures c.after_value.ensures
