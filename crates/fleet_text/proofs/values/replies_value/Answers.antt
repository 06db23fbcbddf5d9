use Rattle.std.proofs.Common.{refl, ap, ◌∙◌}
use Rattle.serde_json.specs.Data.{Members, object}
use Rattle.json_objects.proofs.Chains.{put_more}
use Rattle.fleet_text.proofs.values.replies_value.Goals as goal

pub returns : goal.returns
returns c =
    let counted = put_more _ _ _ _ _ _ c.in_ok-count.ensures refl c.new-object.ensures in
    let failed = put_more _ _ _ _ _ _ c.in_ok-count-2.ensures refl counted in
    let times = put_more _ _ _ _ _ _ c.in_ok-value.ensures c.in_ok-histogram_value.ensures failed in
    c.into_value.ensures ∙ ap (λ (ms : Members). object ms) times
