-- What was read of a table, with one more entry, and the parts of what is sound.
use Rattle.std.proofs.Common.{ℕ, ◌≡◌, ◌+◌, ◌^◌, ◌<◌, cond, eqb, List, [], ◌∷◌, ◌++◌, sym, refl, ap, ◌∙◌, subst, arith}
use Rattle.std.specs.Cmp.{unsigned_tied}
use Rattle.std.specs.Map.{keys_of, values_of}
use Rattle.std.specs.Ordering.{nat_cmp, is_eq}
use Rattle.std.proofs.lemmas.Cmp.{nat_cmp_total}
use Rattle.std.proofs.lemmas.List.Elements.{All-from_recursion, recursion_from_All}
use Rattle.fleet_summary.specs.declared.facts.Failure.{Failure}
use Rattle.fleet_summary.specs.declared.group.GroupCounts.{GroupCounts}
use Rattle.fleet_summary.specs.declared.summary.Summary.{Summary}
use Rattle.fleet_summary.specs.declared.steps.TheConstants.{STEPS}
use Rattle.fleet_summary.specs.Histogram.{IsHistogram, capped, count_at}
use Rattle.fleet_summary.specs.Failures.{IsFailures, failed_by}
use Rattle.fleet_summary.specs.GroupCounters.{GroupCounter, in_traces, in_spans, on_paths, comes_sooner, ran_at, queued_at, took_at, then_at, IsGroup, group_amount}
use Rattle.fleet_summary.specs.Groups.{IsGroups, amount_of}
use Rattle.fleet_summary.specs.Counters.{Counter, replied, failed, replied_at, in_group, failed_with, IsSound, amount}
use Rattle.fleet_summary.specs.Names.{failure_cmp, name_cmp}
use Rattle.fleet_summary.proofs.FailuresAdded.{IsFailures-none, failed_by-fits, replies_in}
use Rattle.fleet_summary.proofs.GroupsAdded.{IsGroups-none, amount_of-fits, reads}
use Rattle.fleet_summary.proofs.HistogramAdded.{IsHistogram-none}
use Rattle.fleet_summary.proofs.HistogramAt.{count_at-fits}
use Rattle.fleet_summary.proofs.Keys.{failure_cmp-total, name_cmp-total}
use Rattle.fleet_summary.proofs.SummaryLaws.{same_counts, same_summary}
use Rattle.fleet_text.proofs.Pushed.{AreBefore, before_there, key_there, keys-push, read_at-push, sorted-push, value_there, values-push}

-- ---- histograms

IsHistogram-push : (entries : List (ℕ × ℕ)) (step number : ℕ) → IsHistogram entries → AreBefore nat_cmp entries step → step < STEPS → 0 < number → number < 2 ^ 64 → IsHistogram (entries ++ (step, number) ∷ [])
IsHistogram-push entries step number is before counted some fits = record {
  ordered = sorted-push nat_cmp entries step number is.ordered before;
  steps = All-from_recursion (λ other. other < STEPS) (keys_of (entries ++ (step, number) ∷ [])) (keys-push (λ other. other < STEPS) entries step number (recursion_from_All (λ other. other < STEPS) (keys_of entries) is.steps) counted);
  positive = All-from_recursion (λ other. 0 < other) (values_of (entries ++ (step, number) ∷ [])) (values-push (λ other. 0 < other) entries step number (recursion_from_All (λ other. 0 < other) (values_of entries) is.positive) some);
  fits = All-from_recursion (λ other. other < 2 ^ 64) (values_of (entries ++ (step, number) ∷ [])) (values-push (λ other. other < 2 ^ 64) entries step number (recursion_from_All (λ other. other < 2 ^ 64) (values_of entries) is.fits) fits);
}

pub histogram-pushed : (before after : List (ℕ × ℕ)) (step number : ℕ) → IsHistogram before → IsHistogram after → AreBefore nat_cmp before step → step < STEPS → 0 < number → number < 2 ^ 64 →
    ((other : ℕ) → count_at after other ≡ capped (count_at before other + cond (eqb other step) number 0)) → after ≡ before ++ (step, number) ∷ []
histogram-pushed before after step number is also above counted some fits adds =
    same_counts after (before ++ (step, number) ∷ []) also (IsHistogram-push before step number is above counted some fits)
    (λ other.
    adds other
    ∙ ap (λ b. capped (count_at before other + cond b number 0)) (sym (unsigned_tied other step))
    ∙ sym (read_at-push nat_cmp_total replies_in before step number refl fits (count_at-fits before is) above other))

pub record IsHistogramEntry (entries : List (ℕ × ℕ)) (step number : ℕ) : Type 0 where
  pub before : AreBefore nat_cmp entries step
  pub counted : step < STEPS
  pub some : 0 < number

pub histogram-entry : (all entries : List (ℕ × ℕ)) (own : ℕ × ℕ) (rest : List (ℕ × ℕ)) → all ≡ entries ++ own ∷ rest → IsHistogram all → IsHistogramEntry entries own.0 own.1
histogram-entry all entries own rest is sound =
    let whole : IsHistogram (entries ++ own ∷ rest) = subst IsHistogram is sound in
    record {
      before = before_there nat_cmp entries own rest whole.ordered;
      counted = key_there (λ step. step < STEPS) entries own rest (recursion_from_All (λ step. step < STEPS) (keys_of (entries ++ own ∷ rest)) whole.steps);
      some = value_there (λ number. 0 < number) entries own rest (recursion_from_All (λ number. 0 < number) (values_of (entries ++ own ∷ rest)) whole.positive);
    }

-- ---- what is sound, part by part

amount-fits : (summary : Summary) → summary.replies.count < 2 ^ 64 → summary.replies.failed < 2 ^ 64 → IsHistogram summary.replies.times → IsGroups summary.groups → IsFailures summary.failures → (counter : Counter) → amount summary counter < 2 ^ 64
amount-fits summary count failed_too times groups failures replied = count
amount-fits summary count failed_too times groups failures failed = failed_too
amount-fits summary count failed_too times groups failures (replied_at step) = count_at-fits summary.replies.times times step
amount-fits summary count failed_too times groups failures (in_group name counter) = amount_of-fits summary.groups name counter groups
amount-fits summary count failed_too times groups failures (failed_with failure) = failed_by-fits summary.failures failure failures

pub IsSound-parts : (summary : Summary) → summary.replies.count < 2 ^ 64 → summary.replies.failed < 2 ^ 64 → IsHistogram summary.replies.times → IsGroups summary.groups → IsFailures summary.failures → IsSound summary
IsSound-parts summary count failed_too times groups failures = record {
  times = times;
  groups = groups;
  failures = failures;
  fits = amount-fits summary count failed_too times groups failures;
}

group_amount-fits : (counts : GroupCounts) → counts.traces < 2 ^ 64 → counts.spans < 2 ^ 64 → counts.paths < 2 ^ 64 → counts.sooner < 2 ^ 64 → IsHistogram counts.ran → IsHistogram counts.queued → IsHistogram counts.times → IsHistogram counts.times_then → (counter : GroupCounter) → group_amount counts counter < 2 ^ 64
group_amount-fits counts traces spans paths soon ran queued times times_then in_traces = traces
group_amount-fits counts traces spans paths soon ran queued times times_then in_spans = spans
group_amount-fits counts traces spans paths soon ran queued times times_then on_paths = paths
group_amount-fits counts traces spans paths soon ran queued times times_then comes_sooner = soon
group_amount-fits counts traces spans paths soon ran queued times times_then (ran_at step) = count_at-fits counts.ran ran step
group_amount-fits counts traces spans paths soon ran queued times times_then (queued_at step) = count_at-fits counts.queued queued step
group_amount-fits counts traces spans paths soon ran queued times times_then (took_at step) = count_at-fits counts.times times step
group_amount-fits counts traces spans paths soon ran queued times times_then (then_at step) = count_at-fits counts.times_then times_then step

pub IsGroup-parts : (counts : GroupCounts) → 0 < counts.traces → counts.traces < 2 ^ 64 → counts.spans < 2 ^ 64 → counts.paths < 2 ^ 64 → counts.sooner < 2 ^ 64 → IsHistogram counts.ran → IsHistogram counts.queued → IsHistogram counts.times → IsHistogram counts.times_then → IsGroup counts
IsGroup-parts counts some traces spans paths soon ran queued times times_then = record {
  some = some;
  fits = group_amount-fits counts traces spans paths soon ran queued times times_then;
  ran = ran;
  queued = queued;
  times = times;
  times_then = times_then;
}

-- ---- groups

-- a summary of these groups and failures alone
abbrev alone : List (List ℕ × GroupCounts) → List (Failure × ℕ) → Summary
alone groups failures = record { replies = record { count = 0; failed = 0; times = [] }; groups = groups; failures = failures }

IsSound-alone : (groups : List (List ℕ × GroupCounts)) (failures : List (Failure × ℕ)) → IsGroups groups → IsFailures failures → IsSound (alone groups failures)
IsSound-alone groups failures is also = IsSound-parts (alone groups failures) (omega arith) (omega arith) IsHistogram-none is also

same_alone : (groups others : List (List ℕ × GroupCounts)) (failures more : List (Failure × ℕ)) → ((name : List ℕ) (counter : GroupCounter) → amount_of groups name counter ≡ amount_of others name counter) →
    ((failure : Failure) → failed_by failures failure ≡ failed_by more failure) → (counter : Counter) → amount (alone groups failures) counter ≡ amount (alone others more) counter
same_alone groups others failures more same also replied = refl
same_alone groups others failures more same also failed = refl
same_alone groups others failures more same also (replied_at step) = refl
same_alone groups others failures more same also (in_group name counter) = same name counter
same_alone groups others failures more same also (failed_with failure) = also failure

same_groups : (groups others : List (List ℕ × GroupCounts)) → IsGroups groups → IsGroups others → ((name : List ℕ) (counter : GroupCounter) → amount_of groups name counter ≡ amount_of others name counter) → groups ≡ others
same_groups groups others is also same =
    ap (λ (summary : Summary). summary.groups) (same_summary (alone groups []) (alone others []) (IsSound-alone groups [] is IsFailures-none) (IsSound-alone others [] also IsFailures-none) (same_alone groups others [] [] same (λ failure. refl)))

same_failures : (failures others : List (Failure × ℕ)) → IsFailures failures → IsFailures others → ((failure : Failure) → failed_by failures failure ≡ failed_by others failure) → failures ≡ others
same_failures failures others is also same =
    ap (λ (summary : Summary). summary.failures) (same_summary (alone [] failures) (alone [] others) (IsSound-alone [] failures IsGroups-none is) (IsSound-alone [] others IsGroups-none also) (same_alone [] [] failures others (λ name counter. refl) same))

IsGroups-push : (groups : List (List ℕ × GroupCounts)) (name : List ℕ) (counts : GroupCounts) → IsGroups groups → AreBefore name_cmp groups name → IsGroup counts → IsGroups (groups ++ (name, counts) ∷ [])
IsGroups-push groups name counts is before group = record {
  ordered = sorted-push name_cmp groups name counts is.ordered before;
  each = All-from_recursion IsGroup (values_of (groups ++ (name, counts) ∷ [])) (values-push IsGroup groups name counts (recursion_from_All IsGroup (values_of groups) is.each) group);
}

pub groups-pushed : (before after : List (List ℕ × GroupCounts)) (name : List ℕ) (counts : GroupCounts) → IsGroups before → IsGroups after → AreBefore name_cmp before name → IsGroup counts →
    ((other : List ℕ) (counter : GroupCounter) → amount_of after other counter ≡ capped (amount_of before other counter + cond (is_eq (name_cmp other name)) (group_amount counts counter) 0)) → after ≡ before ++ (name, counts) ∷ []
groups-pushed before after name counts is also above group adds =
    same_groups after (before ++ (name, counts) ∷ []) also (IsGroups-push before name counts is above group)
    (λ other counter. adds other counter ∙ sym (read_at-push name_cmp-total (reads counter) before name counts refl (group.fits counter) (λ (key : List ℕ). amount_of-fits before key counter is) above other))

pub record IsGroupEntry (groups : List (List ℕ × GroupCounts)) (name : List ℕ) (counts : GroupCounts) : Type 0 where
  pub before : AreBefore name_cmp groups name
  pub group : IsGroup counts

pub group-entry : (all groups : List (List ℕ × GroupCounts)) (own : List ℕ × GroupCounts) (rest : List (List ℕ × GroupCounts)) → all ≡ groups ++ own ∷ rest → IsGroups all → IsGroupEntry groups own.0 own.1
group-entry all groups own rest is sound =
    let whole : IsGroups (groups ++ own ∷ rest) = subst IsGroups is sound in
    record { before = before_there name_cmp groups own rest whole.ordered; group = value_there IsGroup groups own rest (recursion_from_All IsGroup (values_of (groups ++ own ∷ rest)) whole.each) }

-- ---- failures

IsFailures-push : (failures : List (Failure × ℕ)) (failure : Failure) (replies : ℕ) → IsFailures failures → AreBefore failure_cmp failures failure → 0 < replies → replies < 2 ^ 64 → IsFailures (failures ++ (failure, replies) ∷ [])
IsFailures-push failures failure replies is before some fits = record {
  ordered = sorted-push failure_cmp failures failure replies is.ordered before;
  positive = All-from_recursion (λ n. 0 < n) (values_of (failures ++ (failure, replies) ∷ [])) (values-push (λ n. 0 < n) failures failure replies (recursion_from_All (λ n. 0 < n) (values_of failures) is.positive) some);
  fits = All-from_recursion (λ n. n < 2 ^ 64) (values_of (failures ++ (failure, replies) ∷ [])) (values-push (λ n. n < 2 ^ 64) failures failure replies (recursion_from_All (λ n. n < 2 ^ 64) (values_of failures) is.fits) fits);
}

pub failures-pushed : (before after : List (Failure × ℕ)) (failure : Failure) (replies : ℕ) → IsFailures before → IsFailures after → AreBefore failure_cmp before failure → 0 < replies → replies < 2 ^ 64 →
    ((other : Failure) → failed_by after other ≡ capped (failed_by before other + cond (is_eq (failure_cmp other failure)) replies 0)) → after ≡ before ++ (failure, replies) ∷ []
failures-pushed before after failure replies is also above some fits adds =
    same_failures after (before ++ (failure, replies) ∷ []) also (IsFailures-push before failure replies is above some fits)
    (λ other. adds other ∙ sym (read_at-push failure_cmp-total replies_in before failure replies refl fits (λ (key : Failure). failed_by-fits before key is) above other))

pub record IsFailureEntry (failures : List (Failure × ℕ)) (failure : Failure) (replies : ℕ) : Type 0 where
  pub before : AreBefore failure_cmp failures failure
  pub some : 0 < replies

pub failure-entry : (all failures : List (Failure × ℕ)) (own : Failure × ℕ) (rest : List (Failure × ℕ)) → all ≡ failures ++ own ∷ rest → IsFailures all → IsFailureEntry failures own.0 own.1
failure-entry all failures own rest is sound =
    let whole : IsFailures (failures ++ own ∷ rest) = subst IsFailures is sound in
    record { before = before_there failure_cmp failures own rest whole.ordered; some = value_there (λ n. 0 < n) failures own rest (recursion_from_All (λ n. 0 < n) (values_of (failures ++ own ∷ rest)) whole.positive) }
