use Rattle.std.proofs.Common.{◌∙◌, ◌+◌, ◌-◌, ◌++◌, arith, sym}
use Rattle.trace_stages.specs.Order.{most_needed, needed}
use Rattle.trace_stages.specs.Scene.{plain_scene}
use Rattle.trace_stages.proofs.Ordering.{chain_full, chain_met, chain_more, chain_none, put_more}
use Rattle.trace_stages.proofs.order.needed_before.Goals as goal

pub returns-in_default-clause-joins : goal.returns-in_default-clause-joins
returns-in_default-clause-joins c = λ order puts. chain_none (plain_scene c.args.scene.now) order c.loop-passed.joins.items (needed (plain_scene c.args.scene.now) order most_needed c.args.source) (most_needed - c.loop-passed._passed) c.loop-passed.next c.in_default.is (c.loop-passed.invariant order puts).0

pub returns-then-not-needs-clause-joins : goal.returns-then-not-needs-clause-joins
returns-then-not-needs-clause-joins c = λ order puts. chain_met (plain_scene c.args.scene.now) order c.loop-passed.joins.items (needed (plain_scene c.args.scene.now) order most_needed c.args.source) (most_needed - c.loop-passed._passed) c.loop-passed.next c.in-Some.id c.in-Some.is
    (sym (c.needs.ensures (order ++ c.loop-passed.joins.items) (c.loop-passed.invariant order puts).1) ∙ c.if-not-needs.true) (c.loop-passed.invariant order puts).0

pub loop-passed-preserved : goal.loop-passed-preserved
loop-passed-preserved c = λ order puts. (
  chain_more (plain_scene c.args.scene.now) order c.loop-passed.joins.items c.push.new.self.items (needed (plain_scene c.args.scene.now) order most_needed c.args.source) (most_needed - c.loop-passed._passed) (most_needed - (c.loop-passed._passed + 1)) c.loop-passed.next c.first_source-next.result c.in-Some.id
      (omega arith) c.in-Some.is (sym (c.needs.ensures (order ++ c.loop-passed.joins.items) (c.loop-passed.invariant order puts).1) ∙ c.if-not-needs.false) c.in_ok-push.ensures.items c.first_source-next.ensures (c.loop-passed.invariant order puts).0,
  put_more c.note.new.put order c.loop-passed.joins.items c.push.new.self.items c.in-Some.id c.in_ok-push.ensures.items (c.in_ok-note.ensures (order ++ c.loop-passed.joins.items) (c.loop-passed.invariant order puts).1),
)

pub returns-clause-joins : goal.returns-clause-joins
returns-clause-joins c = λ order puts. chain_full (plain_scene c.args.scene.now) order c.loop-passed.joins.items (needed (plain_scene c.args.scene.now) order most_needed c.args.source) (most_needed - c.loop-passed._passed) c.loop-passed.next (omega arith) (c.loop-passed.invariant order puts).0
