use Rattle.std.proofs.Common.{◌∙◌, ◌++◌, ap}
use Rattle.trace_stages.specs.Order.{tried_before}
use Rattle.trace_stages.specs.Scene.{plain_scene}
use Rattle.trace_stages.proofs.Ordering.{puts_more, tried_are_of_spans}
use Rattle.trace_stages.proofs.order.put_last.Goals as goal

pub returns-clause-ids : goal.returns-clause-ids
returns-clause-ids c = λ puts. c.in_ok-put_tried.ensures ∙ ap (λ those. those ++ tried_before (plain_scene c.args.scene.now) c.args.place) (c.in_ok-put_end.ensures.ids puts)

pub returns-clause-noted : goal.returns-clause-noted
returns-clause-noted c = λ puts. puts_more c.put_end.new.put c.put_end.new.ids.items (tried_before (plain_scene c.args.scene.now) c.args.place) c.put_tried.new.ids.items (tried_are_of_spans (plain_scene c.args.scene.now) c.args.place) c.in_ok-put_tried.ensures (c.in_ok-put_end.ensures.noted puts)
