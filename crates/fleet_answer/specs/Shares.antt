-- What a group did on the paths of the slowest replies, and of all.
use Rattle.std.specs.Prelude.{ℕ, ◌≡◌, ◌+◌, ◌-◌, ◌*◌, ◌/◌, if◌then◌else◌, List, max, nat_le, sum_by}
use Rattle.fleet_summary.specs.declared.group.GroupCounts.{GroupCounts}
use Rattle.fleet_summary.specs.Histogram.{capped, total_of}
use Rattle.fleet_summary.specs.Quantiles.{IsStepOfRank}
use Rattle.fleet_answer.specs.declared.shares.Share.{Share}
use Rattle.fleet_answer.specs.declared.shares.Shares.{Shares}
use Rattle.fleet_answer.specs.declared.shares.Slowest.{Slowest}

-- what stands at a step and those above it
abbrev pub sum_from : ℕ → List (ℕ × ℕ) → ℕ
sum_from first histogram = sum_by (λ entry. if nat_le first entry.0 then entry.1 else 0) histogram

-- how much that is for each reply, in whole ticks
abbrev pub for_each : ℕ → ℕ → ℕ
for_each ticks replies = capped (ticks / max replies 1)

-- what it came to for each of some replies: those whose times have this step or one above it
abbrev pub share_from : ℕ → ℕ → GroupCounts → Share
share_from first replies counts = record { ran = for_each (sum_from first counts.ran) replies; queued = for_each (sum_from first counts.queued) replies }

abbrev pub shares_of : Slowest → GroupCounts → Shares
shares_of slowest counts = record { slowest = share_from slowest.first slowest.replies counts; all = share_from 0 slowest.all counts }

-- the rank of the first of so many hundredths, the slowest: one more than the others are
abbrev pub slow_rank : ℕ → ℕ → ℕ
slow_rank percent all = (100 - percent) * all / 100 + 1

-- The slowest are those whose times have the step of the first of them, or one above it.
pub record AreSlowest (percent : ℕ) (times : List (ℕ × ℕ)) (slowest : Slowest) : Type 0 where
  pub percent_is : slowest.percent ≡ percent
  pub first_is : IsStepOfRank (slow_rank percent (total_of times)) times slowest.first
  pub replies_are : slowest.replies ≡ capped (sum_from slowest.first times)
  pub all_are : slowest.all ≡ capped (sum_from 0 times)
