-- The rows of an answer.
use Rattle.std.specs.Prelude.{ℕ, ◌≡◌, ◌-◌, ◌^◌, List, [], ◌∷◌, Option, MatchOption, map, ⊤}
use Rattle.std.specs.Option.{option_map}
use Rattle.std.specs.List.Sorted.{IsNonDecreasingBy, IsPermutation, IsStableByKey}
use Rattle.std.specs.Ordering.{nat_cmp}
use Rattle.fleet_summary.specs.declared.facts.Failure.{Failure}
use Rattle.fleet_summary.specs.declared.group.GroupCounts.{GroupCounts}
use Rattle.fleet_summary.specs.declared.replies.Replies.{Replies}
use Rattle.fleet_summary.specs.Histogram.{capped, total_of}
use Rattle.fleet_answer.specs.declared.rows.FailureRow.{FailureRow}
use Rattle.fleet_answer.specs.declared.rows.GroupRow.{GroupRow}
use Rattle.fleet_answer.specs.declared.rows.ReplyRow.{ReplyRow}
use Rattle.fleet_answer.specs.declared.rows.TryRow.{TryRow}
use Rattle.fleet_answer.specs.declared.shares.Slowest.{Slowest}
use Rattle.fleet_answer.specs.declared.tried.Tried.{Tried}
use Rattle.fleet_answer.specs.Quantiles.{AreTimesOf}
use Rattle.fleet_answer.specs.Shares.{shares_of}
use Rattle.fleet_answer.specs.Without.{IsP99Without}

-- how many there are, how many of them failed, and how long they took, failed or not
pub record IsReplyRow (replies : Replies) (row : ReplyRow) : Type 0 where
  pub replies_are : row.replies ≡ replies.count
  pub failed_are : row.failed ≡ replies.failed
  pub times_are : AreTimesOf replies.times row.times

-- what a group came to: where it is, what it did on paths, and how the replies, which all took these times, would come if it took none
pub record IsGroupRow (all : List (ℕ × ℕ)) (slowest : Option Slowest) (group : List ℕ × GroupCounts) (row : GroupRow) : Type 0 where
  pub name_is : row.name ≡ group.0
  pub traces_are : row.traces ≡ group.1.traces
  pub spans_are : row.spans ≡ group.1.spans
  pub on_path_is : row.on_path ≡ group.1.paths
  pub ran_is : row.ran ≡ capped (total_of group.1.ran)
  pub queued_is : row.queued ≡ capped (total_of group.1.queued)
  pub sooner_is : row.sooner ≡ group.1.sooner
  pub p99_is : IsP99Without all group.1 row.p99
  pub shares_are : row.shares ≡ option_map (λ (slow : Slowest). shares_of slow group.1) slowest

-- each group has its row
abbrev pub AreGroupRows : List (ℕ × ℕ) → Option Slowest → List (List ℕ × GroupCounts) → List GroupRow → Type 0
AreGroupRows all slowest [] [] = ⊤
AreGroupRows all slowest (group ∷ groups) (row ∷ rows) = IsGroupRow all slowest group row × AreGroupRows all slowest groups rows
AreGroupRows all slowest [] (row ∷ rows) = ⊥
AreGroupRows all slowest (group ∷ groups) [] = ⊥

-- the more sooner, the less
abbrev pub order_of : GroupRow → ℕ
order_of row = 2 ^ 64 - 1 - row.sooner

-- the largest gain first, and of several that are the same as they stood
pub record AreByGain (before rows : List GroupRow) : Type 0 where
  pub permutation : IsPermutation before rows
  pub ordered : IsNonDecreasingBy order_of rows
  pub stable : IsStableByKey order_of nat_cmp before rows

-- the rows of groups: the largest gain first, and of several that are the same by name
abbrev pub AreRankedRows : List (ℕ × ℕ) → Option Slowest → List (List ℕ × GroupCounts) → List GroupRow → Type 0
AreRankedRows all slowest groups rows = (by_name : List GroupRow) × AreGroupRows all slowest groups by_name × AreByGain by_name rows

-- the change that was tried, and how the replies would have come; none where no reply was tried
pub record IsTryRow (tried : Tried) (row : TryRow) : Type 0 where
  pub change_is : row.change ≡ tried.change
  pub replies_are : MatchOption row.replies (tried.replies.times ≡ []) (IsReplyRow tried.replies)

abbrev pub failure_row : Failure × ℕ → FailureRow
failure_row failure = record { exception = failure.0.exception; group = failure.0.group; replies = failure.1 }

abbrev pub failure_rows : List (Failure × ℕ) → List FailureRow
failure_rows failures = map failure_row failures
