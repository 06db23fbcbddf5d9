use Rattle.std.proofs.Common.{refl, ap, ◌∙◌}
use Rattle.serde_json.specs.Data.{Members, object}
use Rattle.json_objects.proofs.Chains.{put_more}
use Rattle.fleet_text.proofs.values.group_value.Goals as goal

pub returns : goal.returns
returns c =
    let name_put = put_more _ _ _ _ _ _ c.in_ok-put_name.ensures refl c.new-object.ensures in
    let traces = put_more _ _ _ _ _ _ c.in_ok-count.ensures refl name_put in
    let spans = put_more _ _ _ _ _ _ c.in_ok-count-2.ensures refl traces in
    let paths = put_more _ _ _ _ _ _ c.in_ok-count-3.ensures refl spans in
    let soon = put_more _ _ _ _ _ _ c.in_ok-count-4.ensures refl paths in
    let ran = put_more _ _ _ _ _ _ c.in_ok-value.ensures c.in_ok-histogram_value.ensures soon in
    let queued = put_more _ _ _ _ _ _ c.in_ok-value-2.ensures c.in_ok-histogram_value-2.ensures ran in
    let times = put_more _ _ _ _ _ _ c.in_ok-value-3.ensures c.in_ok-histogram_value-3.ensures queued in
    let times_then = put_more _ _ _ _ _ _ c.in_ok-value-4.ensures c.in_ok-histogram_value-4.ensures times in
    c.into_value.ensures ∙ ap (λ (ms : Members). object ms) times_then
