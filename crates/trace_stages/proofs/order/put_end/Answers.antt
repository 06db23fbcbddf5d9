use Rattle.std.proofs.Common.{◌∙◌, sym}
use Rattle.trace_stages.specs.Scene.{plain_scene}
use Rattle.trace_stages.proofs.Ordering.{ended_by_limit, ended_plainly}
use Rattle.trace_stages.proofs.order.put_end.Goals as goal

pub returns-then-gave_up-clause-ids : goal.returns-then-gave_up-clause-ids
returns-then-gave_up-clause-ids c = λ puts. c.in_ok-put_given_up.ensures.ids puts ∙ sym (ended_by_limit (plain_scene c.args.scene.now) c.args.ids.now.items c.args.place (sym c.gave_up.ensures ∙ c.if-gave_up.true))

pub returns-clause-ids : goal.returns-clause-ids
returns-clause-ids c = λ puts. c.in_ok-put_stage.ensures.ids puts ∙ sym (ended_plainly (plain_scene c.args.scene.now) c.args.ids.now.items c.args.place (sym c.gave_up.ensures ∙ c.if-gave_up.false))
