use Rattle.std.proofs.Common.{List, ap, ◌∙◌}
use Rattle.serde_json.specs.Data.{Data, array}
use Rattle.serde_json.specs.View.{items_of, view}
use Rattle.fleet_text.specs.Json.{failure_json}
use Rattle.json_objects.proofs.Lists.{made_all, made_more}
use Rattle.fleet_text.proofs.values.failures_value.Goals as goal

pub loop-failure-preserved : goal.loop-failure-preserved
loop-failure-preserved c = record {
  can = tt;
  finite = tt;
  whole =
      made_more view failure_json c.loop-failure.values.items c.push.new.list.items c.loop-failure.failure-iterator c.next.new.self c.args.failures.now c.in_ok-value.value (c.in-Some.failure.now, c.in-Some.replies.now)
      c.in_ok-push.ensures.ok c.in-Some.ensures.steps c.in_ok-value.ensures c.loop-failure.invariant.whole;
}

pub returns : goal.returns
returns c =
    c.from.ensures
    ∙ ap (λ (ds : List Data). array (items_of ds)) (made_all view failure_json c.loop-failure.values.items c.loop-failure.failure-iterator c.args.failures.now c.in-None.ensures.steps.0 c.loop-failure.invariant.whole)
