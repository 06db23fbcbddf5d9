-- An answer as JSON: one object on a line.
use Rattle.std.specs.Prelude.{ℕ, List, [], ◌∷◌, ◌++◌, Option, Some, None, codes, map}
use Rattle.serde_json.specs.Data.{Data, null, number, string, array}
use Rattle.serde_json.specs.View.{items_of}
use Rattle.serde_json.specs.Written.{compact_text}
use Rattle.text_io.specs.Writes.{line_end}
use Rattle.fleet_answer.specs.declared.answer.Answer.{Answer}
use Rattle.fleet_answer.specs.declared.rows.FailureRow.{FailureRow}
use Rattle.fleet_answer.specs.declared.rows.GroupRow.{GroupRow}
use Rattle.fleet_answer.specs.declared.rows.ReplyRow.{ReplyRow}
use Rattle.fleet_answer.specs.declared.rows.TryRow.{TryRow}
use Rattle.fleet_answer.specs.declared.shares.Share.{Share}
use Rattle.fleet_answer.specs.declared.shares.Shares.{Shares}
use Rattle.fleet_answer.specs.declared.shares.Slowest.{Slowest}
use Rattle.json_objects.specs.Objects.{count_json, object}

-- a number, or null where there is none
abbrev pub maybe_json : Option ℕ → Data
maybe_json None = null
maybe_json (Some count) = count_json count

abbrev pub replies_json : ReplyRow → Data
replies_json row =
    object
    ((codes "count", count_json row.replies)
    ∷ (codes "failed", count_json row.failed)
    ∷ (codes "p50", count_json row.times.p50)
    ∷ (codes "p90", count_json row.times.p90)
    ∷ (codes "p99", count_json row.times.p99)
    ∷ (codes "max", count_json row.times.longest)
    ∷ [])

abbrev pub share_json : Share → Data
share_json share = object ((codes "ran", count_json share.ran) ∷ (codes "queued", count_json share.queued) ∷ [])

-- for each of the slowest replies and for each of all; null where that was not asked for
abbrev pub shares_json : Option Shares → Data
shares_json None = null
shares_json (Some shares) = object ((codes "slowest", share_json shares.slowest) ∷ (codes "all", share_json shares.all) ∷ [])

abbrev pub group_json : GroupRow → Data
group_json row =
    object
    ((codes "name", string row.name)
    ∷ (codes "traces", count_json row.traces)
    ∷ (codes "spans", count_json row.spans)
    ∷ (codes "onPath", count_json row.on_path)
    ∷ (codes "ran", count_json row.ran)
    ∷ (codes "queued", count_json row.queued)
    ∷ (codes "sooner", count_json row.sooner)
    ∷ (codes "p99", maybe_json row.p99)
    ∷ (codes "perReply", shares_json row.shares)
    ∷ [])

-- null where no reply was tried
abbrev pub tried_json : Option ReplyRow → Data
tried_json None = null
tried_json (Some row) = replies_json row

abbrev pub try_json : TryRow → Data
try_json row = object ((codes "change", string row.change) ∷ (codes "replies", tried_json row.replies) ∷ [])

abbrev pub slowest_json : Option Slowest → Data
slowest_json None = null
slowest_json (Some slowest) = object ((codes "percent", count_json slowest.percent) ∷ (codes "replies", count_json slowest.replies) ∷ [])

abbrev pub failure_json : FailureRow → Data
failure_json row = object ((codes "exception", string row.exception) ∷ (codes "group", string row.group) ∷ (codes "replies", count_json row.replies) ∷ [])

abbrev pub groups_json : List GroupRow → Data
groups_json rows = array (items_of (map group_json rows))

abbrev pub tries_json : List TryRow → Data
tries_json rows = array (items_of (map try_json rows))

abbrev pub failures_json : List FailureRow → Data
failures_json rows = array (items_of (map failure_json rows))

abbrev pub answer_json : Answer → Data
answer_json answer =
    object
    ((codes "report", string (codes "fleet"))
    ∷ (codes "replies", replies_json answer.replies)
    ∷ (codes "groups", groups_json answer.groups.items)
    ∷ (codes "tries", tries_json answer.tries.items)
    ∷ (codes "slowest", slowest_json answer.slowest)
    ∷ (codes "failures", failures_json answer.failures.items)
    ∷ [])

-- the object's text, with no space, and the end of the line
abbrev pub json_text : Answer → List ℕ
json_text answer = compact_text (answer_json answer) ++ line_end
