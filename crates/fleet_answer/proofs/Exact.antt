-- An answer has no float, so its text is told exactly.
use Rattle.std.proofs.Common.{◌≡◌, ℕ, [], ◌∷◌, false, Option, Some, None, refl}
use Rattle.std.specs.Prelude.{codes}
use Rattle.serde_json.specs.Data.{string}
use Rattle.serde_json.specs.Written.{has_float}
use Rattle.fleet_answer.specs.declared.answer.Answer.{Answer}
use Rattle.fleet_answer.specs.declared.rows.FailureRow.{FailureRow}
use Rattle.fleet_answer.specs.declared.rows.GroupRow.{GroupRow}
use Rattle.fleet_answer.specs.declared.rows.ReplyRow.{ReplyRow}
use Rattle.fleet_answer.specs.declared.rows.TryRow.{TryRow}
use Rattle.fleet_answer.specs.declared.shares.Share.{Share}
use Rattle.fleet_answer.specs.declared.shares.Shares.{Shares}
use Rattle.fleet_answer.specs.declared.shares.Slowest.{Slowest}
use Rattle.fleet_answer.specs.Json.{answer_json, failure_json, failures_json, group_json, groups_json, maybe_json, replies_json, share_json, shares_json, slowest_json, tried_json, tries_json, try_json}
use Rattle.json_objects.specs.Objects.{count_json}
use Rattle.json_objects.proofs.Exact.{items_exact, object_exact}

maybe_exact : (number : Option ℕ) → has_float (maybe_json number) ≡ false
maybe_exact None = refl
maybe_exact (Some number) = refl

replies_exact : (row : ReplyRow) → has_float (replies_json row) ≡ false
replies_exact row =
    object_exact
    ((codes "count", count_json row.replies)
    ∷ (codes "failed", count_json row.failed)
    ∷ (codes "p50", count_json row.times.p50)
    ∷ (codes "p90", count_json row.times.p90)
    ∷ (codes "p99", count_json row.times.p99)
    ∷ (codes "max", count_json row.times.longest)
    ∷ [])
    (refl, (refl, (refl, (refl, (refl, (refl, tt))))))

share_exact : (share : Share) → has_float (share_json share) ≡ false
share_exact share = object_exact ((codes "ran", count_json share.ran) ∷ (codes "queued", count_json share.queued) ∷ []) (refl, (refl, tt))

shares_exact : (shares : Option Shares) → has_float (shares_json shares) ≡ false
shares_exact None = refl
shares_exact (Some shares) =
    object_exact ((codes "slowest", share_json shares.slowest) ∷ (codes "all", share_json shares.all) ∷ []) (share_exact shares.slowest, (share_exact shares.all, tt))

group_exact : (row : GroupRow) → has_float (group_json row) ≡ false
group_exact row =
    object_exact
    ((codes "name", string row.name)
    ∷ (codes "traces", count_json row.traces)
    ∷ (codes "spans", count_json row.spans)
    ∷ (codes "onPath", count_json row.on_path)
    ∷ (codes "ran", count_json row.ran)
    ∷ (codes "queued", count_json row.queued)
    ∷ (codes "sooner", count_json row.sooner)
    ∷ (codes "p99", maybe_json row.p99)
    ∷ (codes "perReply", shares_json row.shares)
    ∷ [])
    (refl, (refl, (refl, (refl, (refl, (refl, (refl, (maybe_exact row.p99, (shares_exact row.shares, tt)))))))))

tried_exact : (replies : Option ReplyRow) → has_float (tried_json replies) ≡ false
tried_exact None = refl
tried_exact (Some row) = replies_exact row

try_exact : (row : TryRow) → has_float (try_json row) ≡ false
try_exact row = object_exact ((codes "change", string row.change) ∷ (codes "replies", tried_json row.replies) ∷ []) (refl, (tried_exact row.replies, tt))

slowest_exact : (slowest : Option Slowest) → has_float (slowest_json slowest) ≡ false
slowest_exact None = refl
slowest_exact (Some slowest) = object_exact ((codes "percent", count_json slowest.percent) ∷ (codes "replies", count_json slowest.replies) ∷ []) (refl, (refl, tt))

failure_exact : (row : FailureRow) → has_float (failure_json row) ≡ false
failure_exact row =
    object_exact ((codes "exception", string row.exception) ∷ (codes "group", string row.group) ∷ (codes "replies", count_json row.replies) ∷ []) (refl, (refl, (refl, tt)))

pub answer_exact : (answer : Answer) → has_float (answer_json answer) ≡ false
answer_exact answer =
    object_exact
    ((codes "report", string (codes "fleet"))
    ∷ (codes "replies", replies_json answer.replies)
    ∷ (codes "groups", groups_json answer.groups.items)
    ∷ (codes "tries", tries_json answer.tries.items)
    ∷ (codes "slowest", slowest_json answer.slowest)
    ∷ (codes "failures", failures_json answer.failures.items)
    ∷ [])
    (refl, (replies_exact answer.replies, (items_exact group_json group_exact answer.groups.items, (items_exact try_json try_exact answer.tries.items, (slowest_exact answer.slowest, (items_exact failure_json failure_exact answer.failures.items, tt))))))
