-- The JSON of a summary.
use Rattle.std.specs.Prelude.{ℕ, List, [], ◌∷◌, Option, Some, None, map, codes}
use Rattle.serde_json.specs.Data.{Data, null, number, string, array, item, no_items}
use Rattle.serde_json.specs.View.{items_of}
use Rattle.fleet_summary.specs.declared.facts.Failure.{Failure}
use Rattle.fleet_summary.specs.declared.group.GroupCounts.{GroupCounts}
use Rattle.fleet_summary.specs.declared.replies.Replies.{Replies}
use Rattle.fleet_summary.specs.declared.group_by.GroupBy.{GroupBy}
use Rattle.fleet_summary.specs.declared.group_by.GroupBy.TheVariants.{Span, Service}
use Rattle.fleet_text.specs.declared.part.PartSummary.{PartSummary}
use Rattle.json_objects.specs.Objects.{count_json, object}

-- a step and its number
abbrev pub entry_json : ℕ × ℕ → Data
entry_json entry = array (item (count_json entry.0) (item (count_json entry.1) no_items))

abbrev pub histogram_json : List (ℕ × ℕ) → Data
histogram_json histogram = array (items_of (map entry_json histogram))

-- what a group came to, under its name
abbrev pub group_json : List ℕ × GroupCounts → Data
group_json group =
    object
    ((codes "name", string group.0)
    ∷ (codes "traces", count_json group.1.traces)
    ∷ (codes "spans", count_json group.1.spans)
    ∷ (codes "paths", count_json group.1.paths)
    ∷ (codes "sooner", count_json group.1.sooner)
    ∷ (codes "ran", histogram_json group.1.ran)
    ∷ (codes "queued", histogram_json group.1.queued)
    ∷ (codes "times", histogram_json group.1.times)
    ∷ (codes "timesThen", histogram_json group.1.times_then)
    ∷ [])

-- how many replies failed, and by what
abbrev pub failure_json : Failure × ℕ → Data
failure_json failure =
    object ((codes "exception", string failure.0.exception) ∷ (codes "group", string failure.0.group) ∷ (codes "replies", count_json failure.1) ∷ [])

abbrev pub replies_json : Replies → Data
replies_json replies =
    object ((codes "count", count_json replies.count) ∷ (codes "failed", count_json replies.failed) ∷ (codes "times", histogram_json replies.times) ∷ [])

abbrev pub groups_json : List (List ℕ × GroupCounts) → Data
groups_json groups = array (items_of (map group_json groups))

abbrev pub failures_json : List (Failure × ℕ) → Data
failures_json failures = array (items_of (map failure_json failures))

-- by what the spans are grouped, in a word
abbrev pub grouped_json : GroupBy → Data
grouped_json Span = string (codes "span")
grouped_json Service = string (codes "service")

abbrev pub text_or_null : Option (List ℕ) → Data
text_or_null None = null
text_or_null (Some text) = string text

-- a summary and what it is of, in form 2
abbrev pub part_json : PartSummary → Data
part_json part =
    object
    ((codes "whatif-fleet", count_json 2)
    ∷ (codes "by", grouped_json part.basis.by)
    ∷ (codes "reply", text_or_null part.basis.reply)
    ∷ (codes "unit", text_or_null part.basis.unit)
    ∷ (codes "try", text_or_null part.basis.tried)
    ∷ (codes "replies", replies_json part.summary.replies)
    ∷ (codes "groups", groups_json part.summary.groups)
    ∷ (codes "failures", failures_json part.summary.failures)
    ∷ [])
