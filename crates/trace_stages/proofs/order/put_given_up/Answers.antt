use Rattle.std.proofs.Common.{◌∙◌, ◌++◌, [], ◌∷◌, ap}
use Rattle.trace_stages.specs.declared.walk.stage_id.StageId.TheVariants.{Limit, Whole}
use Rattle.trace_stages.proofs.Ordering.{limit_and_whole, puts_more, two_pushed}
use Rattle.trace_stages.proofs.order.put_given_up.Goals as goal

pub returns-clause-ids : goal.returns-clause-ids
returns-clause-ids c = λ puts.
    two_pushed c.put_stage.new.ids.items c.push.new.self.items c.push-2.new.self.items c.args.place c.in_ok-push.ensures.items c.in_ok-push-2.ensures.items
    ∙ ap (λ those. those ++ (Limit c.args.place ∷ Whole c.args.place ∷ [])) (c.in_ok-put_stage.ensures.ids puts)

pub returns-clause-noted : goal.returns-clause-noted
returns-clause-noted c = λ puts. puts_more c.put_stage.new.put c.put_stage.new.ids.items (Limit c.args.place ∷ Whole c.args.place ∷ []) c.push-2.new.self.items (limit_and_whole c.args.place)
    (two_pushed c.put_stage.new.ids.items c.push.new.self.items c.push-2.new.self.items c.args.place c.in_ok-push.ensures.items c.in_ok-push-2.ensures.items)
    (c.in_ok-put_stage.ensures.noted puts)
