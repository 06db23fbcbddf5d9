use Rattle.std.proofs.Common.{refl, ap, ◌∙◌}
use Rattle.serde_json.specs.Data.{Members, object}
use Rattle.json_objects.proofs.Chains.{put_more}
use Rattle.fleet_text.proofs.values.part_value.Goals as goal

pub returns : goal.returns
returns c =
    let form = put_more _ _ _ _ _ _ c.in_ok-count.ensures refl c.new-object.ensures in
    let by = put_more _ _ _ _ _ _ c.in_ok-value.ensures c.in_ok-grouped_value.ensures form in
    let reply = put_more _ _ _ _ _ _ c.in_ok-put_optional_name.ensures refl by in
    let unit = put_more _ _ _ _ _ _ c.in_ok-put_optional_name-2.ensures refl reply in
    let tried = put_more _ _ _ _ _ _ c.in_ok-put_optional_name-3.ensures refl unit in
    let replies = put_more _ _ _ _ _ _ c.in_ok-value-2.ensures c.in_ok-replies_value.ensures tried in
    let groups = put_more _ _ _ _ _ _ c.in_ok-value-3.ensures c.in_ok-groups_value.ensures replies in
    let failures = put_more _ _ _ _ _ _ c.in_ok-value-4.ensures c.in_ok-failures_value.ensures groups in
    c.into_value.ensures ∙ ap (λ (ms : Members). object ms) failures
