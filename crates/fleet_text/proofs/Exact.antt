-- A summary has no float, so its text is told exactly.
use Rattle.std.proofs.Common.{◌≡◌, ℕ, List, [], ◌∷◌, false, Option, Some, None, refl}
use Rattle.std.specs.Prelude.{codes}
use Rattle.serde_json.specs.Data.{string}
use Rattle.serde_json.specs.Written.{has_float}
use Rattle.fleet_summary.specs.declared.facts.Failure.{Failure}
use Rattle.fleet_summary.specs.declared.group.GroupCounts.{GroupCounts}
use Rattle.fleet_summary.specs.declared.replies.Replies.{Replies}
use Rattle.fleet_summary.specs.declared.group_by.GroupBy.{GroupBy}
use Rattle.fleet_summary.specs.declared.group_by.GroupBy.TheVariants.{Span, Service}
use Rattle.fleet_text.specs.declared.part.PartSummary.{PartSummary}
use Rattle.fleet_text.specs.Json.{entry_json, failure_json, failures_json, group_json, grouped_json, groups_json, histogram_json, part_json, replies_json, text_or_null}
use Rattle.json_objects.specs.Objects.{count_json}
use Rattle.json_objects.proofs.Exact.{items_exact, object_exact}

histogram_exact : (histogram : List (ℕ × ℕ)) → has_float (histogram_json histogram) ≡ false
histogram_exact histogram = items_exact entry_json (λ entry. refl) histogram

replies_exact : (replies : Replies) → has_float (replies_json replies) ≡ false
replies_exact replies =
    object_exact
    ((codes "count", count_json replies.count) ∷ (codes "failed", count_json replies.failed) ∷ (codes "times", histogram_json replies.times) ∷ [])
    (refl, (refl, (histogram_exact replies.times, tt)))

group_exact : (group : List ℕ × GroupCounts) → has_float (group_json group) ≡ false
group_exact group =
    object_exact
    ((codes "name", string group.0)
    ∷ (codes "traces", count_json group.1.traces)
    ∷ (codes "spans", count_json group.1.spans)
    ∷ (codes "paths", count_json group.1.paths)
    ∷ (codes "sooner", count_json group.1.sooner)
    ∷ (codes "ran", histogram_json group.1.ran)
    ∷ (codes "queued", histogram_json group.1.queued)
    ∷ (codes "times", histogram_json group.1.times)
    ∷ (codes "timesThen", histogram_json group.1.times_then)
    ∷ [])
    (refl, (refl, (refl, (refl, (refl, (histogram_exact group.1.ran, (histogram_exact group.1.queued, (histogram_exact group.1.times, (histogram_exact group.1.times_then, tt)))))))))

failure_exact : (failure : Failure × ℕ) → has_float (failure_json failure) ≡ false
failure_exact failure =
    object_exact ((codes "exception", string failure.0.exception) ∷ (codes "group", string failure.0.group) ∷ (codes "replies", count_json failure.1) ∷ []) (refl, (refl, (refl, tt)))

grouped_exact : (by : GroupBy) → has_float (grouped_json by) ≡ false
grouped_exact Span = refl
grouped_exact Service = refl

text_exact : (text : Option (List ℕ)) → has_float (text_or_null text) ≡ false
text_exact None = refl
text_exact (Some text) = refl

pub part_exact : (part : PartSummary) → has_float (part_json part) ≡ false
part_exact part =
    object_exact
    ((codes "whatif-fleet", count_json 2)
    ∷ (codes "by", grouped_json part.basis.by)
    ∷ (codes "reply", text_or_null part.basis.reply)
    ∷ (codes "unit", text_or_null part.basis.unit)
    ∷ (codes "try", text_or_null part.basis.tried)
    ∷ (codes "replies", replies_json part.summary.replies)
    ∷ (codes "groups", groups_json part.summary.groups)
    ∷ (codes "failures", failures_json part.summary.failures)
    ∷ [])
    (refl, (grouped_exact part.basis.by, (text_exact part.basis.reply, (text_exact part.basis.unit, (text_exact part.basis.tried, (replies_exact part.summary.replies, (items_exact group_json group_exact part.summary.groups, (items_exact failure_json failure_exact part.summary.failures, tt))))))))
