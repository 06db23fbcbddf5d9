-- Laws of summaries: they are joined in any order, and what traces come to is the same however they are split.
use Rattle.std.proofs.Common.{ℕ, ◌≡◌, ◌+◌, ◌<◌, List, [], ◌++◌, Option, Some, None, IfSome, sum_by, sym, refl, ap, arith}
use Rattle.std.specs.BTreeMap.{is_at}
use Rattle.std.specs.List.Sorted.{IsPermutation}
use Rattle.std.specs.Map.{lookup}
use Rattle.std.specs.Option.{option_map_or}
use Rattle.std.specs.Ordering.{nat_cmp}
use Rattle.std.proofs.lemmas.Cmp.{nat_cmp_total}
use Rattle.std.proofs.lemmas.List.Sorted.{sum_by-IsPermutation}
use Rattle.std.proofs.lemmas.List.Sums.{sum_by-append}
use Rattle.std.proofs.lemmas.Map.Lookups.{exact_unsigned}
use Rattle.std.proofs.lemmas.Map.Views.{IfSome-lookup_from_All}
use Rattle.fleet_summary.specs.declared.facts.Failure.{Failure}
use Rattle.fleet_summary.specs.declared.facts.TraceFacts.{TraceFacts}
use Rattle.fleet_summary.specs.declared.group.GroupCounts.{GroupCounts}
use Rattle.fleet_summary.specs.declared.summary.Summary.{Summary}
use Rattle.fleet_summary.specs.Histogram.{IsHistogram, capped, count_at}
use Rattle.fleet_summary.specs.Failures.{IsFailures, failed_by}
use Rattle.fleet_summary.specs.GroupCounters.{GroupCounter, in_traces, in_spans, on_paths, comes_sooner, ran_at, queued_at, took_at, then_at, IsGroup, group_amount}
use Rattle.fleet_summary.specs.Groups.{IsGroups, amount_of}
use Rattle.fleet_summary.specs.Counters.{Counter, replied, failed, replied_at, in_group, failed_with, IsSound, IsSummaryJoin, IsSummaryOf, amount, facts_at}
use Rattle.fleet_summary.specs.Names.{failure_cmp, name_cmp}
use Rattle.fleet_summary.proofs.Keys.{failure_cmp-exact, failure_cmp-total, name_cmp-exact, name_cmp-total}
use Rattle.fleet_summary.proofs.SameTables.{same_numbers, same_table}

-- ---- what says the same is the same

pub same_counts : (first second : List (ℕ × ℕ)) → IsHistogram first → IsHistogram second → ((step : ℕ) → count_at first step ≡ count_at second step) → first ≡ second
same_counts first second is also same =
    same_table nat_cmp_total exact_unsigned first second is.ordered also.ordered
    (λ step. same_numbers (lookup (is_at (nat_cmp step)) first) (lookup (is_at (nat_cmp step)) second)
    (IfSome-lookup_from_All (λ n. 0 < n) (is_at (nat_cmp step)) first is.positive)
    (IfSome-lookup_from_All (λ n. 0 < n) (is_at (nat_cmp step)) second also.positive)
    (same step))

same_group : (first second : GroupCounts) → IsGroup first → IsGroup second → ((counter : GroupCounter) → group_amount first counter ≡ group_amount second counter) → first ≡ second
same_group first second is also same =
    let ran : first.ran ≡ second.ran = same_counts first.ran second.ran is.ran also.ran (λ step. same (ran_at step)) in
    let queued : first.queued ≡ second.queued = same_counts first.queued second.queued is.queued also.queued (λ step. same (queued_at step)) in
    let times : first.times ≡ second.times = same_counts first.times second.times is.times also.times (λ step. same (took_at step)) in
    let times_then : first.times_then ≡ second.times_then = same_counts first.times_then second.times_then is.times_then also.times_then (λ step. same (then_at step)) in
    λ i. record {
      traces = same in_traces i;
      spans = same in_spans i;
      paths = same on_paths i;
      sooner = same comes_sooner i;
      ran = ran i;
      queued = queued i;
      times = times i;
      times_then = times_then i;
    }

same_found : (first second : Option GroupCounts) → IfSome first IsGroup → IfSome second IsGroup →
    ((counter : GroupCounter) → option_map_or (λ counts. group_amount counts counter) first 0 ≡ option_map_or (λ counts. group_amount counts counter) second 0) → first ≡ second
same_found None None is also same = refl
same_found None (Some counts) is also same = absurd (omega (arith, same in_traces, also.some))
same_found (Some counts) None is also same = absurd (omega (arith, same in_traces, is.some))
same_found (Some first) (Some second) is also same = ap (λ counts. Some counts) (same_group first second is also same)

same_groups : (first second : List (List ℕ × GroupCounts)) → IsGroups first → IsGroups second → ((name : List ℕ) (counter : GroupCounter) → amount_of first name counter ≡ amount_of second name counter) → first ≡ second
same_groups first second is also same =
    same_table name_cmp-total name_cmp-exact first second is.ordered also.ordered
    (λ name. same_found (lookup (is_at (name_cmp name)) first) (lookup (is_at (name_cmp name)) second)
    (IfSome-lookup_from_All IsGroup (is_at (name_cmp name)) first is.each)
    (IfSome-lookup_from_All IsGroup (is_at (name_cmp name)) second also.each)
    (same name))

same_failures : (first second : List (Failure × ℕ)) → IsFailures first → IsFailures second → ((failure : Failure) → failed_by first failure ≡ failed_by second failure) → first ≡ second
same_failures first second is also same =
    same_table failure_cmp-total failure_cmp-exact first second is.ordered also.ordered
    (λ failure. same_numbers (lookup (is_at (failure_cmp failure)) first) (lookup (is_at (failure_cmp failure)) second)
    (IfSome-lookup_from_All (λ n. 0 < n) (is_at (failure_cmp failure)) first is.positive)
    (IfSome-lookup_from_All (λ n. 0 < n) (is_at (failure_cmp failure)) second also.positive)
    (same failure))

-- two summaries with the same number at each counter are one
pub same_summary : (first second : Summary) → IsSound first → IsSound second → ((counter : Counter) → amount first counter ≡ amount second counter) → first ≡ second
same_summary first second is also same =
    let times : first.replies.times ≡ second.replies.times = same_counts first.replies.times second.replies.times is.times also.times (λ step. same (replied_at step)) in
    let groups : first.groups ≡ second.groups = same_groups first.groups second.groups is.groups also.groups (λ name counter. same (in_group name counter)) in
    let failures : first.failures ≡ second.failures = same_failures first.failures second.failures is.failures also.failures (λ failure. same (failed_with failure)) in
    λ i. record {
      replies = record { count = same replied i; failed = same failed i; times = times i };
      groups = groups i;
      failures = failures i;
    }

-- ---- joins

pub join-order : (left right joined other : Summary) → IsSound joined → IsSound other → IsSummaryJoin left right joined → IsSummaryJoin right left other → joined ≡ other
join-order left right joined other is also join turned =
    same_summary joined other is also (λ counter.
    let a : amount joined counter ≡ capped (amount left counter + amount right counter) = join counter in
    let b : amount other counter ≡ capped (amount right counter + amount left counter) = turned counter in
    omega arith)

pub join-associative : (first second third left right one other : Summary) → IsSound one → IsSound other → IsSummaryJoin first second left → IsSummaryJoin left third one →
    IsSummaryJoin second third right → IsSummaryJoin first right other → one ≡ other
join-associative first second third left right one other is also start end back front =
    same_summary one other is also (λ counter.
    let a : amount left counter ≡ capped (amount first counter + amount second counter) = start counter in
    let b : amount one counter ≡ capped (amount left counter + amount third counter) = end counter in
    let c : amount right counter ≡ capped (amount second counter + amount third counter) = back counter in
    let d : amount other counter ≡ capped (amount first counter + amount right counter) = front counter in
    omega arith)

-- joined with the summary of no trace, a summary is as it was
pub join-none : (none summary joined : Summary) → IsSound summary → IsSound joined → IsSummaryOf [] none → IsSummaryJoin none summary joined → joined ≡ summary
join-none none summary joined is also nothing join =
    same_summary joined summary also is (λ counter.
    let a : amount none counter ≡ capped 0 = nothing counter in
    let b : amount joined counter ≡ capped (amount none counter + amount summary counter) = join counter in
    omega (arith, is.fits counter))

-- ---- summaries of traces

-- the summary of two lists of traces is the join of theirs
pub summary-append : (first second : List TraceFacts) (left right joined : Summary) → IsSummaryOf first left → IsSummaryOf second right → IsSummaryJoin left right joined → IsSummaryOf (first ++ second) joined
summary-append first second left right joined is also join counter =
    let a : amount left counter ≡ capped (sum_by (λ facts. facts_at facts counter) first) = is counter in
    let b : amount right counter ≡ capped (sum_by (λ facts. facts_at facts counter) second) = also counter in
    let c : amount joined counter ≡ capped (amount left counter + amount right counter) = join counter in
    omega (arith, sum_by-append (λ facts. facts_at facts counter) first second)

-- the same traces in another order have the same summary
pub summary-order : (traces others : List TraceFacts) (summary other : Summary) → IsSound summary → IsSound other → IsPermutation traces others → IsSummaryOf traces summary → IsSummaryOf others other → summary ≡ other
summary-order traces others summary other sound also moved is last =
    same_summary summary other sound also (λ counter.
    let a : amount summary counter ≡ capped (sum_by (λ facts. facts_at facts counter) traces) = is counter in
    let b : amount other counter ≡ capped (sum_by (λ facts. facts_at facts counter) others) = last counter in
    omega (arith, sum_by-IsPermutation (λ facts. facts_at facts counter) traces others moved))

-- However traces are split in two, and in whatever order, the join of the parts' summaries is the summary of all.
pub summary-split : (traces first second : List TraceFacts) (left right joined whole : Summary) → IsSound joined → IsSound whole → IsPermutation traces (first ++ second) →
    IsSummaryOf first left → IsSummaryOf second right → IsSummaryJoin left right joined → IsSummaryOf traces whole → joined ≡ whole
summary-split traces first second left right joined whole sound also moved is last join all =
    sym (summary-order traces (first ++ second) whole joined also sound moved all (summary-append first second left right joined is last join))
