-- What is counted of a group, counter by counter from its parts.
use Rattle.std.proofs.Common.{ℕ, ◌≡◌, ◌+◌, ◌-◌, ◌^◌, ◌<◌, Bool, true, false, cond, eqb, refl, ◌∙◌, arith}
use Rattle.fleet_summary.specs.declared.facts.GroupFacts.{GroupFacts}
use Rattle.fleet_summary.specs.declared.group.GroupCounts.{GroupCounts}
use Rattle.fleet_summary.specs.Histogram.{IsHistogram, IsJoin, capped, count_at}
use Rattle.fleet_summary.specs.GroupCounters.{GroupCounter, in_traces, in_spans, on_paths, comes_sooner, ran_at, queued_at, took_at, then_at, IsGroup, group_amount, group_facts_at}
use Rattle.fleet_summary.specs.Steps.{step_of}

-- where nothing stood, what was added stands
from_none : (before after number : ℕ) → before ≡ 0 → after ≡ capped (before + number) → after ≡ capped number
from_none before after number none is = omega arith

one_or_none : (b : Bool) → cond b 1 0 ≡ capped (cond b 1 0)
one_or_none true = refl
one_or_none false = refl

pub group_amount-of : (time : ℕ) (facts : GroupFacts) (none counts : GroupCounts) → ((counter : GroupCounter) → group_amount none counter ≡ 0) →
    counts.traces ≡ 1 → counts.spans ≡ facts.spans → facts.spans < 2 ^ 64 → counts.paths ≡ cond facts.is_on_path 1 0 → counts.sooner ≡ time - facts.time_then → time < 2 ^ 64 →
    ((step : ℕ) → count_at counts.ran step ≡ capped (count_at none.ran step + cond (eqb step (step_of time)) facts.ran 0)) →
    ((step : ℕ) → count_at counts.queued step ≡ capped (count_at none.queued step + cond (eqb step (step_of time)) facts.queued 0)) →
    ((step : ℕ) → count_at counts.times step ≡ capped (count_at none.times step + cond (eqb step (step_of time)) 1 0)) →
    ((step : ℕ) → count_at counts.times_then step ≡ capped (count_at none.times_then step + cond (eqb step (step_of facts.time_then)) 1 0)) →
    (counter : GroupCounter) → group_amount counts counter ≡ capped (group_facts_at time facts counter)
group_amount-of time facts none counts nothing traces spans few paths soon fits ran queued times then in_traces = traces
group_amount-of time facts none counts nothing traces spans few paths soon fits ran queued times then in_spans = omega (arith, spans, few)
group_amount-of time facts none counts nothing traces spans few paths soon fits ran queued times then on_paths = paths ∙ one_or_none facts.is_on_path
group_amount-of time facts none counts nothing traces spans few paths soon fits ran queued times then comes_sooner = omega (arith, soon, fits)
group_amount-of time facts none counts nothing traces spans few paths soon fits ran queued times then (ran_at step) = from_none (count_at none.ran step) (count_at counts.ran step) (cond (eqb step (step_of time)) facts.ran 0) (nothing (ran_at step)) (ran step)
group_amount-of time facts none counts nothing traces spans few paths soon fits ran queued times then (queued_at step) = from_none (count_at none.queued step) (count_at counts.queued step) (cond (eqb step (step_of time)) facts.queued 0) (nothing (queued_at step)) (queued step)
group_amount-of time facts none counts nothing traces spans few paths soon fits ran queued times then (took_at step) = from_none (count_at none.times step) (count_at counts.times step) (cond (eqb step (step_of time)) 1 0) (nothing (took_at step)) (times step)
group_amount-of time facts none counts nothing traces spans few paths soon fits ran queued times then (then_at step) = from_none (count_at none.times_then step) (count_at counts.times_then step) (cond (eqb step (step_of facts.time_then)) 1 0) (nothing (then_at step)) (then step)

-- the parts of counts, added
pub record IsAdded (left right joined : GroupCounts) : Type 0 where
  pub traces : joined.traces ≡ capped (left.traces + right.traces)
  pub spans : joined.spans ≡ capped (left.spans + right.spans)
  pub paths : joined.paths ≡ capped (left.paths + right.paths)
  pub sooner : joined.sooner ≡ capped (left.sooner + right.sooner)
  pub ran : IsJoin left.ran right.ran joined.ran
  pub queued : IsJoin left.queued right.queued joined.queued
  pub times : IsJoin left.times right.times joined.times
  pub times_then : IsJoin left.times_then right.times_then joined.times_then

pub group_amount-added : (left right joined : GroupCounts) → IsAdded left right joined → (counter : GroupCounter) → group_amount joined counter ≡ capped (group_amount left counter + group_amount right counter)
group_amount-added left right joined is in_traces = is.traces
group_amount-added left right joined is in_spans = is.spans
group_amount-added left right joined is on_paths = is.paths
group_amount-added left right joined is comes_sooner = is.sooner
group_amount-added left right joined is (ran_at step) = is.ran step
group_amount-added left right joined is (queued_at step) = is.queued step
group_amount-added left right joined is (took_at step) = is.times step
group_amount-added left right joined is (then_at step) = is.times_then step

capped_below : (before number after : ℕ) → after ≡ capped (before + number) → after < 2 ^ 64
capped_below before number after is = omega arith

pub IsGroup-added : (left right joined : GroupCounts) → IsAdded left right joined → IsHistogram joined.ran → IsHistogram joined.queued → IsHistogram joined.times → IsHistogram joined.times_then → 0 < right.traces → IsGroup joined
IsGroup-added left right joined is ran queued times times_then some = record {
  some = let sum : joined.traces ≡ capped (left.traces + right.traces) = is.traces in omega arith;
  fits = λ counter. capped_below (group_amount left counter) (group_amount right counter) (group_amount joined counter) (group_amount-added left right joined is counter);
  ran = ran;
  queued = queued;
  times = times;
  times_then = times_then;
}
