use Rattle.std.proofs.Common.{List, ap, ◌∙◌}
use Rattle.serde_json.specs.Data.{Data, array}
use Rattle.serde_json.specs.View.{items_of, view}
use Rattle.fleet_text.specs.Json.{entry_json}
use Rattle.json_objects.proofs.Lists.{made_all, made_more}
use Rattle.fleet_text.proofs.histogram.histogram_value.Goals as goal

pub loop-step-preserved : goal.loop-step-preserved
loop-step-preserved c = record {
  can = tt;
  finite = tt;
  whole =
      made_more view entry_json c.loop-step.entries.items c.push.new.list.items c.loop-step.step-iterator c.next.new.self c.args.histogram.now c.in_ok-entry.entry (c.in-Some.step.now, c.in-Some.number.now)
      c.in_ok-push.ensures.ok c.in-Some.ensures.steps c.in_ok-entry.ensures c.loop-step.invariant.whole;
}

pub returns : goal.returns
returns c =
    c.from.ensures
    ∙ ap (λ (ds : List Data). array (items_of ds)) (made_all view entry_json c.loop-step.entries.items c.loop-step.step-iterator c.args.histogram.now c.in-None.ensures.steps.0 c.loop-step.invariant.whole)
