use Rattle.std.proofs.Common.{List, ap, map, ◌∙◌, arith}
use Rattle.std.proofs.lemmas.List.{take_all}
use Rattle.serde_json.specs.Data.{Data, array}
use Rattle.serde_json.specs.View.{items_of, view}
use Rattle.fleet_answer.specs.Json.{failure_json}
use Rattle.json_objects.proofs.Lists.{made_next}
use Rattle.fleet_answer.proofs.values.failures_value.Goals as goal

pub loop-row-preserved : goal.loop-row-preserved
loop-row-preserved c =
    made_next view failure_json c.loop-row.values.items c.push.new.list.items c.args.rows.now c.loop-row.row-index c.in_ok-value.value c.row-item.result
    c.loop-row-test.true c.row-item.is c.in_ok-push.ensures.ok c.in_ok-value.ensures c.loop-row.invariant

pub returns : goal.returns
returns c =
    c.from.ensures
    ∙ ap (λ (ds : List Data). array (items_of ds)) (c.loop-row.invariant ∙ ap (map failure_json) (take_all c.loop-row.row-index c.args.rows.now c.loop-row-test.false))
