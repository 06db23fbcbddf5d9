use Rattle.std.proofs.Common.{refl, ap, ◌∙◌}
use Rattle.serde_json.specs.Data.{Members, object}
use Rattle.json_objects.proofs.Chains.{put_more}
use Rattle.fleet_text.proofs.values.failure_value.Goals as goal

pub returns : goal.returns
returns c =
    let exception = put_more _ _ _ _ _ _ c.in_ok-put_name.ensures refl c.new-object.ensures in
    let own_group = put_more _ _ _ _ _ _ c.in_ok-put_name-2.ensures refl exception in
    let replies = put_more _ _ _ _ _ _ c.in_ok-count.ensures refl own_group in
    c.into_value.ensures ∙ ap (λ (ms : Members). object ms) replies
