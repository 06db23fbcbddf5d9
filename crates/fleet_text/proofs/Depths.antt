-- How deep the JSON of a summary nests.
use Rattle.std.proofs.Common.{ℕ, ◌≤◌, List, [], ◌∷◌, Option, Some, None, map, arith}
use Rattle.std.specs.Prelude.{codes}
use Rattle.serde_json.specs.Data.{string, depth, items_depth}
use Rattle.serde_json.specs.View.{items_of}
use Rattle.fleet_summary.specs.declared.facts.Failure.{Failure}
use Rattle.fleet_summary.specs.declared.group.GroupCounts.{GroupCounts}
use Rattle.fleet_summary.specs.declared.replies.Replies.{Replies}
use Rattle.fleet_summary.specs.declared.group_by.GroupBy.{GroupBy}
use Rattle.fleet_summary.specs.declared.group_by.GroupBy.TheVariants.{Span, Service}
use Rattle.fleet_text.specs.declared.part.PartSummary.{PartSummary}
use Rattle.fleet_text.specs.Json.{entry_json, failure_json, failures_json, group_json, grouped_json, groups_json, histogram_json, part_json, replies_json, text_or_null}
use Rattle.json_objects.specs.Objects.{count_json}
use Rattle.json_objects.proofs.Depths.{items_depth-below, object-below}

histogram-shallow : (histogram : List (ℕ × ℕ)) → depth (histogram_json histogram) ≤ 2
histogram-shallow histogram = let inner : items_depth (items_of (map entry_json histogram)) ≤ 1 = items_depth-below entry_json 1 (λ entry. omega arith) histogram in omega arith

group-shallow : (group : List ℕ × GroupCounts) → depth (group_json group) ≤ 3
group-shallow group =
    object-below 2
    ((codes "name", string group.0)
    ∷ (codes "traces", count_json group.1.traces)
    ∷ (codes "spans", count_json group.1.spans)
    ∷ (codes "paths", count_json group.1.paths)
    ∷ (codes "sooner", count_json group.1.sooner)
    ∷ (codes "ran", histogram_json group.1.ran)
    ∷ (codes "queued", histogram_json group.1.queued)
    ∷ (codes "times", histogram_json group.1.times)
    ∷ (codes "timesThen", histogram_json group.1.times_then)
    ∷ [])
    (omega arith, (omega arith, (omega arith, (omega arith, (omega arith, (histogram-shallow group.1.ran, (histogram-shallow group.1.queued, (histogram-shallow group.1.times, (histogram-shallow group.1.times_then, tt)))))))))

failure-shallow : (failure : Failure × ℕ) → depth (failure_json failure) ≤ 1
failure-shallow failure =
    object-below 0
    ((codes "exception", string failure.0.exception) ∷ (codes "group", string failure.0.group) ∷ (codes "replies", count_json failure.1) ∷ [])
    (omega arith, (omega arith, (omega arith, tt)))

replies-shallow : (replies : Replies) → depth (replies_json replies) ≤ 3
replies-shallow replies =
    object-below 2
    ((codes "count", count_json replies.count) ∷ (codes "failed", count_json replies.failed) ∷ (codes "times", histogram_json replies.times) ∷ [])
    (omega arith, (omega arith, (histogram-shallow replies.times, tt)))

groups-shallow : (groups : List (List ℕ × GroupCounts)) → depth (groups_json groups) ≤ 4
groups-shallow groups = let inner : items_depth (items_of (map group_json groups)) ≤ 3 = items_depth-below group_json 3 group-shallow groups in omega arith

failures-shallow : (failures : List (Failure × ℕ)) → depth (failures_json failures) ≤ 4
failures-shallow failures = let inner : items_depth (items_of (map failure_json failures)) ≤ 1 = items_depth-below failure_json 1 failure-shallow failures in omega arith

grouped-shallow : (by : GroupBy) → depth (grouped_json by) ≤ 126
grouped-shallow Span = omega arith
grouped-shallow Service = omega arith

text-shallow : (text : Option (List ℕ)) → depth (text_or_null text) ≤ 126
text-shallow None = omega arith
text-shallow (Some text) = omega arith

pub part-shallow : (part : PartSummary) → depth (part_json part) ≤ 127
part-shallow part =
    object-below 126
    ((codes "whatif-fleet", count_json 2)
    ∷ (codes "by", grouped_json part.basis.by)
    ∷ (codes "reply", text_or_null part.basis.reply)
    ∷ (codes "unit", text_or_null part.basis.unit)
    ∷ (codes "try", text_or_null part.basis.tried)
    ∷ (codes "replies", replies_json part.summary.replies)
    ∷ (codes "groups", groups_json part.summary.groups)
    ∷ (codes "failures", failures_json part.summary.failures)
    ∷ []) (
      omega arith,
      (
        grouped-shallow part.basis.by,
        (
          text-shallow part.basis.reply,
          (
            text-shallow part.basis.unit,
            (
              text-shallow part.basis.tried,
              (omega (arith, replies-shallow part.summary.replies), (omega (arith, groups-shallow part.summary.groups), (omega (arith, failures-shallow part.summary.failures), tt))),
            ),
          ),
        ),
      ),
    )
