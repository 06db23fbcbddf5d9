use Rattle.std.proofs.Common.{List, ap, ◌∙◌}
use Rattle.serde_json.specs.Data.{Data, array}
use Rattle.serde_json.specs.View.{items_of, view}
use Rattle.fleet_text.specs.Json.{group_json}
use Rattle.json_objects.proofs.Lists.{made_all, made_more}
use Rattle.fleet_text.proofs.values.groups_value.Goals as goal

pub loop-name-preserved : goal.loop-name-preserved
loop-name-preserved c = record {
  can = tt;
  finite = tt;
  whole =
      made_more view group_json c.loop-name.values.items c.push.new.list.items c.loop-name.name-iterator c.next.new.self c.args.groups.now c.in_ok-value.value (c.in-Some.name.now, c.in-Some.counts.now)
      c.in_ok-push.ensures.ok c.in-Some.ensures.steps c.in_ok-value.ensures c.loop-name.invariant.whole;
}

pub returns : goal.returns
returns c =
    c.from.ensures
    ∙ ap (λ (ds : List Data). array (items_of ds)) (made_all view group_json c.loop-name.values.items c.loop-name.name-iterator c.args.groups.now c.in-None.ensures.steps.0 c.loop-name.invariant.whole)
