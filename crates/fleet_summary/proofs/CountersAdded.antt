-- What a summary says, counter by counter from its parts.
use Rattle.std.proofs.Common.{ℕ, ◌≡◌, ◌+◌, ◌^◌, ◌<◌, cond, eqb, List, [], is_some, ap, arith}
use Rattle.std.specs.Option.{option_map_or}
use Rattle.std.specs.Ordering.{is_eq}
use Rattle.fleet_summary.specs.declared.facts.Failure.{Failure}
use Rattle.fleet_summary.specs.declared.facts.TraceFacts.{TraceFacts}
use Rattle.fleet_summary.specs.declared.summary.Summary.{Summary}
use Rattle.fleet_summary.specs.Histogram.{IsHistogram, IsJoin, capped, count_at}
use Rattle.fleet_summary.specs.Failures.{IsFailures, failed_by}
use Rattle.fleet_summary.specs.GroupCounters.{GroupCounter}
use Rattle.fleet_summary.specs.Groups.{IsGroups, amount_of, facts_of}
use Rattle.fleet_summary.specs.Counters.{Counter, replied, failed, replied_at, in_group, failed_with, IsSound, IsSummaryJoin, amount, facts_at}
use Rattle.fleet_summary.specs.Names.{failure_cmp}
use Rattle.fleet_summary.specs.Steps.{step_of}

-- the parts of a summary, with one more trace
pub record IsCounted (before after : Summary) (facts : TraceFacts) : Type 0 where
  pub count : after.replies.count ≡ capped (before.replies.count + 1)
  pub failed_too : after.replies.failed ≡ capped (before.replies.failed + cond (is_some facts.failure) 1 0)
  pub times : (step : ℕ) → count_at after.replies.times step ≡ capped (count_at before.replies.times step + cond (eqb step (step_of facts.time)) 1 0)
  pub groups : (name : List ℕ) (counter : GroupCounter) → amount_of after.groups name counter ≡ capped (amount_of before.groups name counter + facts_of facts.time facts.groups.items name counter)
  pub failures : (failure : Failure) → failed_by after.failures failure ≡ capped (failed_by before.failures failure + option_map_or (λ own. cond (is_eq (failure_cmp failure own)) 1 0) facts.failure 0)

pub amount-counted : (before after : Summary) (facts : TraceFacts) → IsCounted before after facts → (counter : Counter) → amount after counter ≡ capped (amount before counter + facts_at facts counter)
amount-counted before after facts is replied = is.count
amount-counted before after facts is failed = is.failed_too
amount-counted before after facts is (replied_at step) = is.times step
amount-counted before after facts is (in_group name counter) = is.groups name counter
amount-counted before after facts is (failed_with failure) = is.failures failure

-- the parts of two summaries, joined
pub record ArePartsJoined (left right joined : Summary) : Type 0 where
  pub count : joined.replies.count ≡ capped (left.replies.count + right.replies.count)
  pub failed_too : joined.replies.failed ≡ capped (left.replies.failed + right.replies.failed)
  pub times : IsJoin left.replies.times right.replies.times joined.replies.times
  pub groups : (name : List ℕ) (counter : GroupCounter) → amount_of joined.groups name counter ≡ capped (amount_of left.groups name counter + amount_of right.groups name counter)
  pub failures : (failure : Failure) → failed_by joined.failures failure ≡ capped (failed_by left.failures failure + failed_by right.failures failure)

pub amount-joined : (left right joined : Summary) → ArePartsJoined left right joined → IsSummaryJoin left right joined
amount-joined left right joined is replied = is.count
amount-joined left right joined is failed = is.failed_too
amount-joined left right joined is (replied_at step) = is.times step
amount-joined left right joined is (in_group name counter) = is.groups name counter
amount-joined left right joined is (failed_with failure) = is.failures failure

sum_below : (before number after : ℕ) → after ≡ capped (before + number) → after < 2 ^ 64
sum_below before number after is = omega arith

pub IsSound-counted : (before after : Summary) (facts : TraceFacts) → IsCounted before after facts → IsHistogram after.replies.times → IsGroups after.groups → IsFailures after.failures → IsSound after
IsSound-counted before after facts is times groups failures = record {
  times = times;
  groups = groups;
  failures = failures;
  fits = λ counter. sum_below (amount before counter) (facts_at facts counter) (amount after counter) (amount-counted before after facts is counter);
}

pub IsSound-joined : (left right joined : Summary) → ArePartsJoined left right joined → IsHistogram joined.replies.times → IsGroups joined.groups → IsFailures joined.failures → IsSound joined
IsSound-joined left right joined is times groups failures = record {
  times = times;
  groups = groups;
  failures = failures;
  fits = λ counter. sum_below (amount left counter) (amount right counter) (amount joined counter) (amount-joined left right joined is counter);
}

-- the summary of no trace
pub amount-none : (none : Summary) → none.replies.count ≡ 0 → none.replies.failed ≡ 0 → none.replies.times ≡ [] → none.groups ≡ [] → none.failures ≡ [] → (counter : Counter) → amount none counter ≡ 0
amount-none none count failed_too times groups failures replied = count
amount-none none count failed_too times groups failures failed = failed_too
amount-none none count failed_too times groups failures (replied_at step) = ap (λ counts. count_at counts step) times
amount-none none count failed_too times groups failures (in_group name counter) = ap (λ table. amount_of table name counter) groups
amount-none none count failed_too times groups failures (failed_with failure) = ap (λ table. failed_by table failure) failures

-- to nothing one was added, and then the other
pub IsSummaryJoin-both : (none left right first both : Summary) → ((counter : Counter) → amount none counter ≡ 0) → IsSummaryJoin none left first → IsSummaryJoin first right both → IsSummaryJoin left right both
IsSummaryJoin-both none left right first both nothing one two counter =
    let begun : amount first counter ≡ capped (amount none counter + amount left counter) = one counter in
    let done : amount both counter ≡ capped (amount first counter + amount right counter) = two counter in
    omega (arith, nothing counter)

-- to nothing a trace was added
pub amount-first : (none summary : Summary) (facts : TraceFacts) → ((counter : Counter) → amount none counter ≡ 0) → ((counter : Counter) → amount summary counter ≡ capped (amount none counter + facts_at facts counter)) → (counter : Counter) → amount summary counter ≡ capped (facts_at facts counter)
amount-first none summary facts nothing adds counter =
    let sum : amount summary counter ≡ capped (amount none counter + facts_at facts counter) = adds counter in
    omega (arith, nothing counter)
