use Rattle.std.proofs.Common.{◌∙◌, ◌+◌, ◌-◌, ◌++◌, ap, arith, sym}
use Rattle.std.proofs.lemmas.List.{append-nil}
use Rattle.std.specs.Prelude.{is_some}
use Rattle.trace_stages.specs.Order.{most_needed}
use Rattle.trace_stages.specs.Scene.{plain_scene}
use Rattle.trace_stages.proofs.Ordering.{tried_all, tried_full, tried_goes_on, tried_more, tried_none}
use Rattle.trace_stages.proofs.order.put_tried.Goals as goal

pub returns-then-is_some : goal.returns-then-is_some
returns-then-is_some c = sym
    (ap (λ rest. c.args.ids.now.items ++ rest) (tried_goes_on (plain_scene c.args.scene.now) c.args.place (ap (λ those. is_some those) (sym c.attempt_after.ensures) ∙ sym c.is_some.ensures ∙ c.if-is_some.true))
    ∙ append-nil c.args.ids.now.items)

pub loop-passed-preserved : goal.loop-passed-preserved
loop-passed-preserved c = tried_more (plain_scene c.args.scene.now) (most_needed - c.loop-passed._passed) (most_needed - (c.loop-passed._passed + 1)) c.loop-passed.ids.items c.push.new.self.items _ _ c.in-Some.previous (omega arith)
    (sym c.in-Some.ensures) c.in_ok-push.ensures.items c.loop-passed.invariant

pub returns-in_default : goal.returns-in_default
returns-in_default c =
    tried_none (plain_scene c.args.scene.now) (most_needed - c.loop-passed._passed) c.loop-passed.ids.items _ _ (sym c.in_default.ensures) c.loop-passed.invariant
    ∙ ap (λ rest. c.args.ids.now.items ++ rest) (sym (tried_all (plain_scene c.args.scene.now) c.args.place (ap (λ those. is_some those) (sym c.attempt_after.ensures) ∙ sym c.is_some.ensures ∙ c.if-is_some.false)))

pub returns : goal.returns
returns c =
    tried_full (plain_scene c.args.scene.now) (most_needed - c.loop-passed._passed) c.loop-passed.ids.items _ _ (omega arith) c.loop-passed.invariant
    ∙ ap (λ rest. c.args.ids.now.items ++ rest) (sym (tried_all (plain_scene c.args.scene.now) c.args.place (ap (λ those. is_some those) (sym c.attempt_after.ensures) ∙ sym c.is_some.ensures ∙ c.if-is_some.false)))
